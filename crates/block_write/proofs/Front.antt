-- The first `count` places of an array, one after the other. Assumes nothing.
use Rattle.std.proofs.Common.{◌≡◌, List, ◌∷◌, ℕ, ◌+◌, ◌<◌, ◌≤◌, length, take, drop, get_or, get_or-take, ap, ◌∙◌}
use lib.Seq.{length-take-le}
use Rattle.wire.proofs.Part.{drop_front}

pub front : (count : ℕ) (l : List ℕ) (i : ℕ) → i < count → count ≤ length l → drop i (take count l) ≡ get_or l i 0 ∷ drop (i + 1) (take count l)
front count l i h p =
    drop_front (take count l) i (rw (length-take-le count l p) h)
    ∙ ap (λ (x : ℕ). x ∷ drop (i + 1) (take count l)) (get_or-take count l i 0 h)
