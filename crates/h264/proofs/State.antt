-- What is saved and the two forms of state that say it: the record, and two lent buffers. Assumes nothing.
use mathlib.Core.Path.{◌≡◌, refl, sym, ap, ap₂, subst₂, ◌∙◌}
use mathlib.Core.List.{List, [], ◌++◌, append-nil}
use mathlib.Core.Bool.{Bool, true, false, cond, ◌&&◌}
use Prim.Native.Nat.{ℕ, ◌+◌, ◌-◌, ◌≤◌}
use native.Mathlib.Nat.{zero-add}
use native.Mathlib.Omega.{arith}
use lib.Dec.{ltb}
use lib.ListN.{length, replicate, length-append, length-take, length-replicate, drop_of_length-le}
use borrow.Author.Tests.{ltb-false}
use Rattle.std.specs.Prelude.{None}
use Rattle.error.specs.Said.{Said}
use Rattle.wire.specs.Part.{splice, pad_to}
use Rattle.wire.proofs.Part.{splice_on, pad_to_nothing, take_pad_to}
use Rattle.h264_put.specs.declared.fate.Fate.{Fate}
use Rattle.h264_put.specs.declared.fate.Fate.TheVariants.{Empty, Dropped, Sps, Pps, Coded}
use Rattle.h264_put.specs.Groups.{Saved, nothing_saved, both_saved, fate_of, keep, keep_by}
use Rattle.h264_put.specs.Step.{is_saved, too_long}
use Rattle.h264_measure.specs.Measured.{Lengths}
use Rattle.h264_walk.specs.declared.places.Lies.{Lies}
use Rattle.h264_walk.specs.declared.places.Waiting.{Waiting}
use Rattle.h264_walk.specs.Waiting.{bytes_of, saved_at, Lying, Waits}
use Rattle.h264_walk.proofs.Bytes.{lying_length}
use Rattle.h264.specs.declared.send.ParameterSet.{ParameterSet}
use Rattle.h264.specs.declared.send.H264Payloader.{H264Payloader}
use Rattle.h264.specs.declared.send.Written.{Written}
use Rattle.h264.specs.declared.lent.LentPayloader.{LentPayloader}
use Rattle.h264.specs.Payload.{set_out, lay_out, held_in, saved_in, Lent, lend_out}
use Rattle.h264.specs.Step.{state_by}

-- no set
pub set_none : ◌≡◌ {A = ParameterSet} (record { bytes = replicate 1024 0; len = 0 }) (set_out [])
set_none = ap (λ (l : List ℕ). record { bytes = l; len = 0 }) (sym (pad_to_nothing 1024))

-- what is laid out is what the record says
pub saved_laid : (v : Saved) → saved_in (lay_out v) ≡ v
saved_laid v = ap₂ (λ (a b : List ℕ). record { sps = a; pps = b }) (take_pad_to 1024 v.sps) (take_pad_to 1024 v.pps)

-- the saved sets fit their arrays
pub record Short (v : Saved) : Type 0 where
  pub sps : length v.sps ≤ 1024
  pub pps : length v.pps ≤ 1024

-- what is kept after a unit within the limit fits the record
pub short_keep : (v : Saved) (u : List ℕ) → Short v → too_long u ≡ false → Short (keep v u)
unfolding keep
short_keep v u s e = go (fate_of u) (λ q. ltb-false 1024 (length u) (sym (ap (λ (b : Bool). b && ltb 1024 (length u)) q) ∙ e))
  where
    forgot : (b : Bool) → Short (cond b nothing_saved v)
    forgot true = record { sps = omega arith; pps = omega arith }
    forgot false = s

    go : (k : Fate) → (is_saved k ≡ true → length u ≤ 1024) → Short (keep_by k v u)
    go Empty f = s
    go Dropped f = s
    go Sps f = record { sps = f refl; pps = s.pps }
    go Pps f = record { sps = s.sps; pps = f refl }
    go Coded f = forgot (both_saved v)

-- ---- sets that were saved before the frame

-- w says that the first n bytes of one buffer and the first m of the other are the sets
pub record Before (sps pps frame : List ℕ) (n m : ℕ) (w : Waiting) : Type 0 where
  pub waits : Waits sps pps frame w
  pub saved : saved_at sps pps frame w ≡ held_in sps n pps m
  pub lengths : Lengths (held_in sps n pps m) n m

pub before : (sps pps frame : List ℕ) (n m : ℕ) → n ≤ 1024 → m ≤ 1024 → n ≤ length sps → m ≤ length pps → (x y : Lies) →
    x ≡ record { at = None; len = n } → y ≡ record { at = None; len = m } → Before sps pps frame n m (record { sps = x; pps = y })
unfolding bytes_of
before sps pps frame n m short-sps short-pps within-sps within-pps x y ex ey =
    subst₂ (λ (s p : Lies). Before sps pps frame n m (record { sps = s; pps = p })) (sym ex) (sym ey)
    (record {
      waits = record {
        of_sps = record { short = short-sps; within = within-sps };
        of_pps = record { short = short-pps; within = within-pps };
      };
      saved = refl;
      lengths = record {
        of_sps = length-take n sps ∙ omega arith;
        of_pps = length-take m pps ∙ omega arith;
      };
    })

-- ---- a set put back into its buffer

-- in front, with zeros behind it
padded : (held s : List ℕ) → length held ≡ 1024 → length s ≤ 1024 →
    splice (splice held 0 s) (length s) (replicate (1024 - length s) 0) ≡ pad_to 1024 s
unfolding pad_to splice
padded held s full h =
    let zeros : List ℕ = replicate (1024 - length s) 0 in
    let l : length (s ++ zeros) ≡ 1024 = length-append s zeros ∙ omega (arith, length-replicate {A = ℕ} (1024 - length s) 0) in
    ap (λ (n : ℕ). splice (splice held 0 s) n zeros) (sym (zero-add (length s)))
    ∙ splice_on held 0 s zeros (omega arith)
    ∙ ap (λ (t : List ℕ). (s ++ zeros) ++ t) (drop_of_length-le held {i = 0 + length (s ++ zeros)} (omega (arith, l, full)))
    ∙ append-nil (s ++ zeros)

-- what the code makes of the array in which a set lay, or another before it
abbrev pub put_back : (held frame : List ℕ) → Lies → ParameterSet
put_back held frame l = record { bytes = splice (splice held 0 (bytes_of held frame l)) l.len (replicate (1024 - l.len) 0); len = l.len }

-- the set laid out anew
pub kept_set : (held frame : List ℕ) (l : Lies) → Lying held frame l → length held ≡ 1024 → put_back held frame l ≡ set_out (bytes_of held frame l)
kept_set held frame l w full =
    let len_is : length (bytes_of held frame l) ≡ l.len = lying_length held frame l w in
    ap (λ (k : ℕ). record { bytes = splice (splice held 0 (bytes_of held frame l)) k (replicate (1024 - k) 0); len = k }) (sym len_is)
    ∙ ap (λ (b : List ℕ). record { bytes = b; len = length (bytes_of held frame l) })
    (padded held (bytes_of held frame l) full (omega (arith, w.short)))

-- both sets, as the record has them: laid out anew, or as they came
pub put_back_lem : (sps pps frame : List ℕ) (w : Waiting) → Waits sps pps frame w → length sps ≡ 1024 → length pps ≡ 1024 → (a : Said Written) (old : H264Payloader) →
    state_by a old (record { sps = put_back sps frame w.sps; pps = put_back pps frame w.pps }) ≡ state_by a old (lay_out (saved_at sps pps frame w))
put_back_lem sps pps frame w t full-sps full-pps a old =
    ap (state_by a old)
    (ap₂ (λ (x y : ParameterSet). record { sps = x; pps = y })
    (kept_set sps frame w.sps t.of_sps full-sps) (kept_set pps frame w.pps t.of_pps full-pps))

-- what the code makes of two lent buffers
pub lent_back : (sps pps frame : List ℕ) (w : Waiting) (t : Waits sps pps frame w) (s : LentPayloader) →
    ◌≡◌ {A = Lent}
    (record {
      sender = record { sps_len = w.sps.len; pps_len = w.pps.len };
      sps = splice sps 0 (bytes_of sps frame w.sps);
      pps = splice pps 0 (bytes_of pps frame w.pps);
    })
    (lend_out (record { sender = s; sps = sps; pps = pps }) (saved_at sps pps frame w))
lent_back sps pps frame w t s =
    ap₂ (λ (x y : ℕ). record {
      sender = record { sps_len = x; pps_len = y };
      sps = splice sps 0 (bytes_of sps frame w.sps);
      pps = splice pps 0 (bytes_of pps frame w.pps);
    })
    (sym (lying_length sps frame w.sps t.of_sps)) (sym (lying_length pps frame w.pps t.of_pps))
