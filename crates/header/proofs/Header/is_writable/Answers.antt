-- A record can be written where its parts can be measured.
use Rattle.std.specs.Prelude.{Result, Ok, Err, is_ok}
use mathlib.Core.Path.{◌≡◌, refl, sym, ap, ◌∙◌}
use Prim.Native.Nat.{ℕ}
use Rattle.error.specs.declared.Error.{Error}
use Rattle.error.specs.Said.{said}
use Rattle.header_write.specs.declared.Parts.{Parts}
use Rattle.header_write.specs.Parts.{Whole, measured}
use Rattle.header.specs.Parts.{record_of}
use Rattle.header.specs.Write.{in_writing_domain}
use Rattle.header.proofs.Apart.{known_of, unknown_of}
use Rattle.header.proofs.Header.is_writable.Goals as goal

-- the answer, by what measuring answers
by : (p : Parts) (whole : Whole p) (r : Result ℕ Error) →
    said r ≡ measured p.fixed p.csrc_count p.profile p.count p.ids.now p.lens.now p.padding → is_ok r ≡ in_writing_domain (record_of p)
by p whole (Ok n) e = let m = known_of p whole (Ok n) e n refl in sym m.domain
by p whole (Err k) e = sym (unknown_of p whole (Err k) e k refl).1

pub returns : goal.returns
returns c =
    c.is_ok.ensures.value
    ∙ by c.parts.result c.measure.ensures.whole c.measure.result c.measure.ensures.value
    ∙ ap in_writing_domain c.parts.ensures
