-- The limits are judged on the list with the element in its place, as `limited` has them.
use mathlib.Core.Path.{◌≡◌, sym, ap, ◌∙◌}
use mathlib.Core.List.{List, [], ◌∷◌}
use Prim.Native.Nat.{ℕ, ◌+◌, ◌-◌}
use native.Mathlib.Omega.{arith}
use lib.ListN.{length, take}
use borrow.Author.Rules.{rules}
use Rattle.error.specs.Said.{says}
use Rattle.elements.specs.declared.Extensions.{Extensions}
use Rattle.elements.specs.declared.Run.{Run}
use Rattle.elements.specs.Elements.{Element, data_of, elements_of, sum}
use Rattle.elements.specs.Runs.{Holds, element, replaced_at}
use Rattle.elements.proofs.Packed.{PackedIn}
use Rattle.elements.proofs.Runs.{packed_by, Bounded, bounded}
use Rattle.elements.proofs.Changes.{put_many, put_bytes}
use Rattle.header.specs.declared.Header.{Header}
use Rattle.header.specs.Extension.{extended, changed}
use Rattle.header.specs.Said.{change_heard}
use Rattle.header.proofs.Changes.{too_many, too_long_lem, room_left}
use Rattle.header.proofs.Header.put.Goals as goal

-- the list with the element in its place
abbrev put : Extensions → Run → ℕ → List ℕ → List Element
put x run id bytes = replaced_at run (element id bytes ∷ []) (elements_of x)

-- where the run lies, and how long the list is with the element in its place
record Place (x : Extensions) (run : Run) (id : ℕ) (bytes : List ℕ) : Type 0 where
  lies : Bounded x run
  many : length (put x run id bytes) ≡ x.count - run.count + 1
  long : length (data_of (put x run id bytes)) ≡ sum (take x.count x.lens) - run.len + length bytes

place : (x : Extensions) (run : Run) (id : ℕ) (bytes : List ℕ) → length x.ids ≡ 32 → length x.lens ≡ 32 → length x.bytes ≡ 1024 →
    Holds x run → Place x run id bytes
place x run id bytes i l b h =
    let p : PackedIn x = packed_by x run i l b h in
    record { lies = bounded x p run h; many = put_many x p run h id bytes; long = put_bytes x p run h id bytes }

pub overflow_sub-self : goal.overflow_sub-self
overflow_sub-self c =
    let a = c.args in
    let p = place a.self.extensions a.run a.id a.payload.now (search rules) (search rules) (search rules) c.requires in
    omega (arith, p.lies)

pub returns-then-self-run-ge32 : goal.returns-then-self-run-ge32
returns-then-self-run-ge32 c =
    let a = c.args in
    let p = place a.self.extensions a.run a.id a.payload.now (search rules) (search rules) (search rules) c.requires in
    c.refused.ensures
    ∙ sym (ap (change_heard a.self)
    (too_many a.self a.profile (put a.self.extensions a.run a.id a.payload.now) a.padding (omega (arith, p.many, c.if-self-run-ge32.true))))

pub overflow_sub-others : goal.overflow_sub-others
overflow_sub-others c =
    let a = c.args in
    let p = place a.self.extensions a.run a.id a.payload.now (search rules) (search rules) (search rules) c.requires in
    omega (arith, p.lies, c.total.ensures)

pub returns-then-others-payload : goal.returns-then-others-payload
returns-then-others-payload c =
    let a = c.args in
    let p = place a.self.extensions a.run a.id a.payload.now (search rules) (search rules) (search rules) c.requires in
    c.refused-then-others-payload.ensures
    ∙ sym (ap (change_heard a.self)
    (too_long_lem a.self a.profile (put a.self.extensions a.run a.id a.payload.now) a.padding
    (omega (arith, p.many, c.if-self-run-ge32.false))
    (omega (arith, p.long, c.total.ensures, c.if-others-payload.true, c.requires.fits))))

pub returns : goal.returns
returns c =
    let a = c.args in
    let p = place a.self.extensions a.run a.id a.payload.now (search rules) (search rules) (search rules) c.requires in
    let list = put a.self.extensions a.run a.id a.payload.now in
    let made : c.extended.result ≡ changed a.self a.profile list a.padding =
    c.extended.ensures ∙ ap (λ (x : Extensions). extended a.self a.profile x a.padding) c.replaced.ensures in
    ap (λ (h : Header). record { answer = says tt; header = h }) made
    ∙ sym (ap (change_heard a.self)
    (room_left a.self a.profile list a.padding
    (omega (arith, p.many, c.if-self-run-ge32.false))
    (omega (arith, p.long, c.total.ensures, c.if-others-payload.false, p.lies))))
