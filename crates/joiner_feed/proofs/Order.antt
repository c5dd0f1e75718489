-- Each sentence is one of the ways of `check_by` and, behind it, of `fed`. Assumes nothing.
use mathlib.Core.Path.{◌≡◌, refl, ap, ◌∙◌}
use mathlib.Core.Bool.{Bool, true, false}
use mathlib.Core.List.{List, []}
use Prim.Native.Nat.{ℕ}
use lib.Dec.{eqb}
use borrow.Author.Tests.{eq-eqb, ne_eqb}
use Rattle.error.specs.Said.{Said, says, refuse}
use Rattle.nal_read.specs.Kind.{Shape, aggregate, fragment, shape}
use Rattle.joiner_step.specs.Run.{Units, Run, none, gathering, hands}
use Rattle.joiner_feed.specs.Content.{Fragment, Note, fed_after}
use Rattle.joiner_feed.specs.H264.{whole_said, fragment_in, fragmented, check_by, check}
use Rattle.joiner_feed.specs.Order.{Checks}

-- a later fragment without a run, the last or not
pub without_run : (time : ℕ) (last : Bool) (head : ℕ) (f : Fragment) → fed_after none time (fragmented false last head f) ≡ says (hands [])
without_run time true head f = refl
without_run time false head f = refl

-- and one of another time than the run's
pub not_of_time : (note : Note) (bytes : List ℕ) (time : ℕ) (last : Bool) (head : ℕ) (f : Fragment) → eqb time note.time ≡ false →
    fed_after (gathering note bytes) time (fragmented false last head f) ≡ refuse 25
not_of_time note bytes time true head f e = rw e
not_of_time note bytes time false head f e = rw e

module _ (run : Run Note) (time : ℕ) (payload : List ℕ) where
  -- by the payload's shape
  shaped : (s : Shape) → shape payload ≡ s → fed_after run time (check payload) ≡ fed_after run time (check_by s payload)
  unfolding check
  shaped s e = ap (λ (x : Shape). fed_after run time (check_by x payload)) e

  -- and the run
  met : (last : Bool) (head : ℕ) (r : Run Note) → shape payload ≡ fragment false last head → run ≡ r →
      fed_after run time (check payload) ≡ fed_after r time (fragmented false last head (fragment_in payload))
  met last head r e q =
      shaped (fragment false last head) e ∙ ap (λ (k : Run Note). fed_after k time (fragmented false last head (fragment_in payload))) q

  pub in_order : Checks run time payload (fed_after run time (check payload))
  in_order =
      record {
        short = λ e. shaped _ e;
        unknown = λ type e. shaped _ e;
        both = λ head e. shaped _ e;
        starts = λ head e. shaped _ e;
        idle = λ last head e q. met last head none e q ∙ without_run time last head (fragment_in payload);
        other_time =
            λ last head note bytes e q n. met last head (gathering note bytes) e q
            ∙ not_of_time note bytes time last head (fragment_in payload) (ne_eqb time note.time n);
        goes_on = λ head note bytes e q t. met false head (gathering note bytes) e q ∙ rw (eq-eqb time note.time t);
        ends_it = λ head note bytes e q t. met true head (gathering note bytes) e q ∙ rw (eq-eqb time note.time t);
        unsized = λ r e u. shaped aggregate e ∙ ap (λ (x : Said Units). fed_after run time (whole_said x)) u;
        sized = λ units e u. shaped aggregate e ∙ ap (λ (x : Said Units). fed_after run time (whole_said x)) u;
        alone = λ e. shaped _ e;
      }
