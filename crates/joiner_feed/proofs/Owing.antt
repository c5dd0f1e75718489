-- A packet that holds units hands them out whatever run is open, one that goes on with a unit does so at the unit's time, and is silent where the
-- run was dropped: so units by themselves, and a unit cut into pieces that are sent at one time, are groups that are owed, whatever the reader and
-- the checks. Assumes nothing.
use mathlib.Core.Path.{◌≡◌, refl, sym, ap, ap₂, subst, ◌∙◌}
use mathlib.Core.Bool.{Bool, cond, ◌||◌, or-false, or_assoc}
use mathlib.Core.List.{List, [], ◌∷◌, ◌++◌, map, append_assoc}
use Prim.Native.Nat.{ℕ, ◌≤◌}
use native.Mathlib.Omega.{arith}
use lib.ListN.{length, length-append}
use borrow.Author.Tests.{le-ltb, eq-eqb}
use Rattle.error.specs.Refusal.{Refusal}
use Rattle.error.specs.Said.{Said, says, refuse}
use Rattle.wire.specs.Each.{Each}
use Rattle.wire.specs.Packets.{joined}
use Rattle.sequence.specs.Codec.{Codec, feed_checked, Does, Owes, Cuts}
use Rattle.sequence.proofs.Cutting.{gathered_to, cut_owes}
use Rattle.joiner_step.specs.Run.{Units, Run, none, gathering, hands, gathers, ends, fed_by}
use Rattle.joiner_step.specs.Run as step
use Rattle.joiner_step.specs.Choice.{Arrived}
use Rattle.joiner_step.specs.General.{Room, Enough, group_in, checked_as, within, codec}
use Rattle.joiner_feed.specs.Content.{Fragment, part_in, together, marked_in, Content, whole, start, middle, end, Timed, timed, Note, onward, topped, in_time, fed, choosing}

-- ---- a unit's fragments together

-- gathered one after the other: their parts in order, and the mark of any
all_together : (before : Fragment) (between : List Fragment) (last : Fragment) →
    gathered_to together before between last
    ≡ record { marked = marked_in (before ∷ between ++ (last ∷ [])); part = before.part ++ (joined (map part_in between) ++ last.part) }
all_together before [] last =
    ap (λ (m : Bool). record { marked = before.marked || m; part = before.part ++ last.part }) (sym (or-false last.marked))
all_together before (s ∷ between) last =
    all_together (together before s) between last
    ∙ ap₂ (λ (m : Bool) (l : List ℕ). record { marked = m; part = l })
    (or_assoc before.marked s.marked (marked_in (between ++ (last ∷ []))))
    (append_assoc before.part s.part (joined (map part_in between) ++ last.part)
    ∙ ap (λ (l : List ℕ). before.part ++ l) (sym (append_assoc s.part (joined (map part_in between)) last.part)))

-- a fragment of the run's own time is not refused
pub in_own_time : (note : Note) (x : step.Does Note) → in_time note note.time x ≡ says x
in_own_time note x = ap (λ (b : Bool). cond b (says x) (refuse 25)) (eq-eqb note.time note.time refl)

module _ {P : Type 0} (reads : List ℕ → Said (Arrived P)) (time : P → ℕ) (check : P → Said Content) (avc : Bool) where
  abbrev pub codec_of : Codec Room Refusal P Timed (Run Note) Units
  codec_of = codec (choosing reads time check avc)

  -- the packet holds this, and is of the time t
  abbrev pub HoldsAt : ℕ → P → Content → Type 0
  HoldsAt t p x = timed (time p) (check p) ≡ says (record { time = t; content = x })

  -- in every room for `most` bytes gathered
  module _ (most largest : ℕ) (bounded : most ≤ 16777215) where
    -- what a packet does that is not refused, in a room that is enough for what it leaves gathered
    does : (t : ℕ) (run : Run Note) (p : P) (x : Content) (y : step.Does Note) → HoldsAt t p x → fed run t x ≡ says y → length (fed_by y).kept ≤ most →
        Does codec_of (Enough most largest) run p (fed_by y).run (group_in (fed_by y).handed)
    does t run p x y e f fits k enough =
        ap (λ (z : Said Timed). feed_checked codec_of k run (checked_as z)) e
        ∙ ap (within (choosing reads time check avc) k) f
        ∙ rw (
          le-ltb k.gather (length (fed_by y).kept) (omega (arith, enough.gather)),
          le-ltb 16777215 (length (fed_by y).kept) (omega arith),
        )

    -- units by themselves
    pub owes_whole : (p : P) (u : List ℕ) (us : Units) → check p ≡ says (whole (u ∷ us)) →
        Owes codec_of (Enough most largest) (record { first = p; others = []; handed = u ∷ us })
    owes_whole p u us e =
        record {
          hands = λ run. (none, does (time p) run p (whole (u ∷ us)) (hands (u ∷ us)) (ap (timed (time p)) e) refl (omega arith));
          quiet = tt;
        }

    -- a unit cut into pieces, all of which are sent at the time t: `Piece` says which may be sent
    module _ (t : ℕ) (starts middles finals : Fragment → P) (head : List ℕ) (Piece : Fragment → Type 0)
        (start_is : (f : Fragment) → Piece f → HoldsAt t (starts f) (start f))
        (middle_is : (f : Fragment) → Piece f → HoldsAt t (middles f) (middle f))
        (end_is : (f : Fragment) → Piece f → HoldsAt t (finals f) (end head f)) where
      abbrev Fits : Fragment → Type 0
      Fits f = length f.part ≤ most

      abbrev noted : Fragment → Note
      noted f = record { marked = f.marked; time = t }

      abbrev opened : Fragment → Run Note
      opened f = gathering (noted f) f.part

      abbrev unit : Fragment → Units
      unit f = (topped f.marked head ++ f.part) ∷ []

      cuts : Cuts codec_of (Enough most largest) together opened starts middles finals unit Piece Fits
      cuts =
          record {
            starts = λ run f p fits. does t run (starts f) (start f) (gathers (noted f) f.part) (start_is f p) refl fits;
            continues =
                λ before f p fits. let goes : step.Does Note = gathers (onward (noted before) f) (before.part ++ f.part) in
                does t (opened before) (middles f) (middle f) goes (middle_is f p) (in_own_time (noted before) goes) fits;
            ends =
                λ before f p fits. let goes : step.Does Note =
                ends (before.part ++ f.part) (topped (onward (noted before) f).marked head ++ (before.part ++ f.part)) in
                (none, does t (opened before) (finals f) (end head f) goes (end_is f p) (in_own_time (noted before) goes) fits);
            middle_quiet = λ f p run. does t none (middles f) (middle f) (hands []) (middle_is f p) refl (omega arith);
            end_quiet = λ f p run. does t none (finals f) (end head f) (hands []) (end_is f p) refl (omega arith);
            shorter = λ before f fits. omega (arith, length-append before.part f.part);
          }

      -- handed out with its top bit set where one of them has it
      pub owes_cut : (first : Fragment) (between : List Fragment) (last : Fragment) → Piece first → Each Piece between → Piece last →
          length (first.part ++ (joined (map part_in between) ++ last.part)) ≤ most →
          Owes codec_of (Enough most largest)
          (record {
            first = starts first;
            others = map middles between ++ (finals last ∷ []);
            handed = (topped (marked_in (first ∷ between ++ (last ∷ []))) head ++ (first.part ++ (joined (map part_in between) ++ last.part))) ∷ [];
          })
      owes_cut first between last p ps q =
          subst (λ (f : Fragment). Fits f → Owes codec_of (Enough most largest) (record { first = starts first; others = map middles between ++ (finals last ∷ []); handed = unit f }))
          (all_together first between last)
          (cut_owes codec_of (Enough most largest) together opened starts middles finals unit Piece Fits cuts first between last p ps q)
