pub mod Feeding
pub mod Owing
pub mod Sayable
pub mod Topping
pub mod Toy
pub mod Order
pub mod Handed
