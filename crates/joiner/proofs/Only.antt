-- "that no second answer satisfies it is proved": each public call's contract is met by one answer, and by no other. For a call with a
-- packet an answer is the result, the record where it is lent, and both buffers as they are left. Assumes nothing.
use mathlib.Core.Path.{◌≡◌, refl, ap, ◌∙◌}
use mathlib.Core.Bool.{Bool}
use mathlib.Core.List.{List}
use Prim.Native.Nat.{ℕ}
use Rattle.std.specs.Prelude.{Result, Ok, Err}
use Rattle.error.specs.declared.Error.{Error}
use Rattle.error.specs.Said.{Said, says, refused}
use Rattle.error.specs.Only.{Determined}
use Rattle.error.proofs.Inverse.{error_of, error_of_refusal_of}
use Rattle.error.proofs.Only.{by_value, by_view, spoken, Sayable, passed}
use Rattle.packet.specs.Read.{PacketReading, read_packet}
use Rattle.packet.proofs.Only.{packet_sayable}
use Rattle.sequence.specs.Number.{distance_of, next_of}
use Rattle.joiner_step.specs.Step.{Accepted, Answer, accepted, late}
use Rattle.joiner_step.proofs.Sayable.{Speaks, step_sayable, closing_cases}
use Rattle.joiner_feed.specs.H264.{check}
use Rattle.joiner_feed.proofs.Sayable.{check_sayable, timed_sayable, fed_sayable}
use Rattle.joiner.specs.declared.Joiner.{Joiner}
use Rattle.joiner.specs.declared.Joined.{Joined}
use Rattle.joiner.specs.declared.Joined.TheVariants as joined
use Rattle.joiner.specs.declared.Step.{Step}
use Rattle.joiner.specs.declared.Closed.{Closed}
use Rattle.joiner.specs.declared.Closing.{Closing}
use Rattle.joiner.specs.Join.{kept_of, Stepped, ClosingStepped, as_closing, arrived_in, choice, avc_of, choice_of, join_step, close_step, opened}
use Rattle.joiner.specs.Said.{said_joined, step_heard, place_heard, said_closed, closing_heard}

-- ---- numbers, by the crate `sequence`

pub distance_only : (number awaited : ℕ) → Determined (λ (r : ℕ). r ≡ distance_of number awaited)
distance_only number awaited = by_value (distance_of number awaited)

pub after_only : (number : ℕ) → Determined (λ (r : ℕ). r ≡ next_of number)
after_only number = by_value (next_of number)

-- ---- opening

pub open_only : (ssrc first : ℕ) → Determined (λ (r : Joiner). r ≡ opened ssrc first)
open_only ssrc first = by_value (opened ssrc first)

-- ---- what a call with a packet says

-- the packet's reader and H.264's checks refuse by numbers of the paper
reads_sayable : (packet : List ℕ) (x : Said PacketReading) → Sayable x → Sayable (arrived_in packet x)
reads_sayable packet (refused r) s = passed {A = PacketReading} {r = r} s
reads_sayable packet (says r) s = refl

speaks : (avc : Bool) → Speaks (choice avc)
speaks avc =
    record {
      reads = λ packet. reads_sayable packet (read_packet packet) (packet_sayable packet);
      checks = λ p. timed_sayable p.time (check p.payload) (check_sayable p.payload);
      feeds = λ run x. fed_sayable run x.time x.content;
    }

abbrev Fine : Stepped → Type 0
Fine st = Sayable st.answer

join_fine : (j : Joiner) (gather out packet : List ℕ) → Fine (join_step j packet gather out)
unfolding join_step
join_fine j gather out packet = step_sayable (choice_of j) (speaks (avc_of j)) (kept_of j) gather out packet

-- ---- joining

abbrev joined_of : Said Answer → Result Joined Error
joined_of (says (accepted a)) = Ok (joined.Accepted a.first a.count a.bytes)
joined_of (says late) = Ok joined.Late
joined_of (refused r) = Err (error_of r)

joined_of_said : (a : Result Joined Error) → joined_of (said_joined a) ≡ a
joined_of_said (Ok (joined.Accepted first count bytes)) = refl
joined_of_said (Ok joined.Late) = refl
joined_of_said (Err e) = ap Err (error_of_refusal_of e)

said_joined_of : (x : Said Answer) → said_joined (joined_of x) ≡ spoken x
said_joined_of (says (accepted a)) = refl
said_joined_of (says late) = refl
said_joined_of (refused r) = refl

-- the result beside both buffers as they are left
abbrev pub Left : Type 0
Left = Step × List ℕ × List ℕ

abbrev pub heard_left : Left → Stepped
heard_left a = step_heard a.0 a.1 a.2

-- the same where the record is lent
abbrev pub Placed : Type 0
Placed = Joiner × Result Joined Error × List ℕ × List ℕ

abbrev pub heard_placed : Placed → Stepped
heard_placed a = place_heard a.0 a.1 a.2 a.3

abbrev placed_of : Stepped → Placed
placed_of st = (st.joiner, joined_of st.answer, st.gather, st.out)

placed_of_heard : (a : Placed) → placed_of (heard_placed a) ≡ a
placed_of_heard a = ap (λ (r : Result Joined Error). (a.0, r, a.2, a.3)) (joined_of_said a.1)

heard_placed_of : (st : Stepped) → Fine st → heard_placed (placed_of st) ≡ st
heard_placed_of st s =
    ap (λ (x : Said Answer). record { joiner = st.joiner; answer = x; gather = st.gather; out = st.out })
    (said_joined_of st.answer ∙ s)

abbrev left_of : Stepped → Left
left_of st = (record { joiner = st.joiner; answer = joined_of st.answer }, st.gather, st.out)

left_of_heard : (a : Left) → left_of (heard_left a) ≡ a
left_of_heard a =
    ap (λ (r : Result Joined Error). (record { joiner = a.0.joiner; answer = r }, a.1, a.2)) (joined_of_said a.0.answer)

module _ (j : Joiner) (packet gather out : List ℕ) where
  pub join_only : Determined (λ (a : Left). heard_left a ≡ join_step j packet gather out)
  join_only =
      by_view heard_left left_of left_of_heard (left_of (join_step j packet gather out)) (join_step j packet gather out)
      (heard_placed_of (join_step j packet gather out) (join_fine j gather out packet))

  pub join_by_value_only : Determined (λ (a : Left). heard_left a ≡ join_step j packet gather out)
  join_by_value_only = join_only

  pub join_in_place_only : Determined (λ (a : Placed). heard_placed a ≡ join_step j packet gather out)
  join_in_place_only =
      by_view heard_placed placed_of placed_of_heard (placed_of (join_step j packet gather out)) (join_step j packet gather out)
      (heard_placed_of (join_step j packet gather out) (join_fine j gather out packet))

-- ---- closing

abbrev closed_of : Said Accepted → Result Closed Error
closed_of (says a) = Ok (record { first = a.first; count = a.count })
closed_of (refused r) = Err (error_of r)

closed_of_said : (a : Result Closed Error) → closed_of (said_closed a) ≡ a
closed_of_said (Ok c) = refl
closed_of_said (Err e) = ap Err (error_of_refusal_of e)

abbrev closing_of : ClosingStepped → Closing
closing_of st = record { joiner = st.joiner; answer = closed_of st.answer }

closing_of_heard : (a : Closing) → closing_of (closing_heard a) ≡ a
closing_of_heard a = ap (λ (c : Result Closed Error). record { joiner = a.joiner; answer = c }) (closed_of_said a.answer)

heard_closing_of : (j : Joiner) (number : ℕ) → closing_heard (closing_of (close_step j number)) ≡ close_step j number
unfolding close_step
heard_closing_of j number =
    closing_cases (choice_of j) (λ st. closing_heard (closing_of (as_closing st)) ≡ as_closing st) (kept_of j) number refl refl refl refl (λ d. refl)

pub close_only : (j : Joiner) (number : ℕ) → Determined (λ (r : Closing). closing_heard r ≡ close_step j number)
close_only j number =
    by_view closing_heard closing_of closing_of_heard (closing_of (close_step j number)) (close_step j number) (heard_closing_of j number)
