-- Tests joined by "or", and each of them. Assumes nothing.
use mathlib.Core.Path.{◌≡◌, refl, sym, ap, ◌∙◌}
use mathlib.Core.Bool.{Bool, true, false, ◌||◌, true≢false}

pub or_yes : (a b : Bool) → a ≡ true → true ≡ (a || b)
or_yes a b e = sym (ap (λ (t : Bool). t || b) e)

pub or_no : (a b x : Bool) → a ≡ false → x ≡ b → x ≡ (a || b)
or_no a b x e q = q ∙ sym (ap (λ (t : Bool). t || b) e)

pub or_false_left : (a b : Bool) → (a || b) ≡ false → a ≡ false
or_false_left true b e = e
or_false_left false b e = refl

pub or_false_right : (a b : Bool) → (a || b) ≡ false → b ≡ false
or_false_right true b e = absurd (true≢false e)
or_false_right false b e = e
