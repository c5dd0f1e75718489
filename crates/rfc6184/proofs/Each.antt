-- The laws of `Each`, by their names here. Assumes nothing.
pub use Rattle.wire.proofs.Each.{each_append, each_by, each_any, each_map}
