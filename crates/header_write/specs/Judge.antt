-- What the elements of a block must be to be written. Assumes nothing.
use Rattle.std.specs.Prelude.{cond, ℕ, ◌%◌, eqb}
use Rattle.error.specs.Said.{Said, refuse}
use Rattle.block.specs.declared.Form.{Form}
use Rattle.block.specs.declared.Form.TheVariants.{OneByte as one_byte, TwoByte as two_byte, Other as other}

-- "9: other profile, element bytes not a multiple of 4", "10: other profile: .. write with element count not 1", with extensions on
abbrev pub judged : {A : Type 0} → Form → ℕ → ℕ → Said A → Said A
judged one_byte len count next = next
judged two_byte len count next = next
judged other len count next = cond (eqb (len % 4) 0) (cond (eqb count 1) next (refuse 10)) (refuse 9)
