-- The joiner with its buffers, for any reader, codec, prefix and note of the run. Its step and closing are the paper's paragraph (`paper_step`, `paper_closing`); a call of it
-- is a call of the joiner for any rule, reader and codec, at the plain rule (`one_call`), and so is its closing (`one_close`); and what it
-- hands out is the bytes of the units that the other hands out, in front of the output (`answered`). Assumes nothing.
use mathlib.Core.Path.{◌≡◌, refl, sym, ap, subst, ◌∙◌}
use mathlib.Core.Bool.{false}
use mathlib.Core.List.{List}
use Prim.Native.Nat.{ℕ}
use lib.ListN.{length}
use Rattle.error.specs.Refusal.{Refusal}
use Rattle.sequence.specs.Rule.{plain}
use Rattle.sequence.specs.Joiner.{Parts, State, Called, call, close}
use Rattle.sequence.specs.Refines.{called_as}
use Rattle.sequence.specs.Plain.{plain_heard}
use Rattle.sequence.proofs.Calling.{call_as, call_fits, close_as, plain_call, plain_close}
use Rattle.joiner_step.specs.Run.{Units, Run}
use Rattle.joiner_step.specs.Choice.{Choice}
use Rattle.joiner_step.specs.Step.{Kept, outside, step, closing}
use Rattle.joiner_step.specs.Paragraph.{Paragraph, ClosingParagraph}
use Rattle.joiner_step.specs.General.{Room, Lying, lying_codec, parts_of, parts, lying, standing, run_in, as_bytes, closing_seen}
use Rattle.joiner_step.proofs.Lying.{Fit, lies}
use Rattle.joiner_step.proofs.Stepping.{Leaves, step_plain, closing_plain}
use Rattle.joiner_step.proofs.Paragraph as paragraph
use Rattle.joiner_step.proofs.Playing.{Stands, told}

-- "Each call does, in order: .."
pub paper_step : {P C N : Type 0} (c : Choice P C N) (j : Kept N) (packet gather out : List ℕ) →
    Paragraph c j packet gather out (step c j packet gather out)
paper_step = paragraph.paper_step

-- "Closing takes the number after the last sent, .."
pub paper_closing : {P C N : Type 0} (c : Choice P C N) (j : Kept N) (number : ℕ) → ClosingParagraph c j number (closing c j number)
paper_closing = paragraph.paper_closing

-- what is so of a record between the calls: it is this source's, not closed, and in the domain
pub record Ready {P C N : Type 0} (c : Choice P C N) (source : ℕ) (j : Kept N) (gather : List ℕ) : Type 0 where
  pub same_source : j.source ≡ source
  pub not_closed : j.closed ≡ false
  pub inside : outside c j.run gather ≡ false

module _ {P C N : Type 0} (c : Choice P C N) (source : ℕ) (j : Kept N) (gather out : List ℕ) (ready : Ready c source j gather) where
  abbrev k : Room
  k = record { gather = length gather; out = length out }

  -- the joiner whose runs lie in record and gather buffer
  abbrev lying_parts : Parts (List ℕ) Room Refusal P C (Lying N) Units
  lying_parts = parts_of c (lying_codec c) (plain P) j.source

  fit : Fit c k (lying j gather).run
  fit = record { same_length = refl; inside = ready.inside }

  -- a call of it, seen as the other's
  lying_call : (packet : List ℕ) →
      called_as run_in (plain_heard lying_parts k (lying j gather) (lying_parts.reader packet)) ≡ call (parts c (plain P) source) k (standing j gather) packet
  lying_call packet =
      ap (called_as run_in) (sym (plain_call lying_parts k (lying j gather) (λ run. refl) packet))
      ∙ call_as lying_parts (lies c) k (lying j gather) fit packet
      ∙ ap (λ (n : ℕ). call (parts c (plain P) n) k (standing j gather) packet) ready.same_source

  pub one_call : (packet : List ℕ) →
      Stands (parts c (plain P) source) c.avc standing (Ready c source) (length gather) (step c j packet gather out)
      (call (parts c (plain P) source) k (standing j gather) packet)
  one_call packet =
      record {
        state =
            ap (λ (s : State ℕ (Lying N)). record { seq = s.seq; run = run_in s.run; missed = s.missed }) l.state
            ∙ ap (λ (m : Called ℕ Refusal (Run N) Units). m.state) (lying_call packet);
        answer = l.answer ∙ ap (λ (m : Called ℕ Refusal (Run N) Units). as_bytes c.avc m.answer) (lying_call packet);
        good =
            record {
              same_source = l.same_source ∙ ready.same_source;
              not_closed = l.not_closed;
              inside = ap (λ (s : State ℕ (Lying N)). outside c s.run.held s.run.gather) l.state ∙ fits.inside;
            };
        same_length = ap (λ (s : State ℕ (Lying N)). length s.run.gather) l.state ∙ fits.same_length;
      }
    where
      l : Leaves c.avc j.source (step c j packet gather out) (plain_heard lying_parts k (lying j gather) (lying_parts.reader packet))
      l = step_plain c j gather out ready.not_closed ready.inside packet

      fits : Fit c k (plain_heard lying_parts k (lying j gather) (lying_parts.reader packet)).state.run
      fits =
          subst (λ (m : Called ℕ Refusal (Lying N) Units). Fit c k m.state.run) (plain_call lying_parts k (lying j gather) (λ run. refl) packet)
          (call_fits lying_parts (lies c) k (lying j gather) fit packet)

  pub one_close : (number : ℕ) → closing_seen (closing c j number) ≡ close (parts c (plain P) source) k (standing j gather) number
  one_close number =
      closing_plain c j gather out ready.not_closed ready.inside number
      ∙ sym (plain_close lying_parts k (lying j gather) number)
      ∙ close_as lying_parts (lies c) k (lying j gather) fit number
      ∙ ap (λ (n : ℕ). close (parts c (plain P) n) k (standing j gather) number) ready.same_source

  -- the bytes handed out, read off the output, are those of the units that the other joiner hands out
  pub answered : (packet : List ℕ) →
      told (step c j packet gather out) ≡ as_bytes c.avc (call (parts c (plain P) source) k (standing j gather) packet).answer
  answered packet = (one_call packet).answer
