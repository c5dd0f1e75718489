-- Demand 3 for any rule, reader and codec: the calls feed the rule's events part by part, so that what they hand out is what the
-- events hand out, and the missed total is the number of holes. Assumes nothing.
use Rattle.std.proofs.Common.{◌≡◌, ℕ, zero, suc, ◌+◌, ◌<◌, ◌≤◌, Bool, true, false, cond, List, [], ◌∷◌, ◌++◌, map, length, get_or, sym, refl, ap, ◌∙◌, subst, ap₂, subst₂, append_assoc, le_of_suc-le-suc, not-suc-le-zero, arith, le-ltb}
use mathlib.Core.Bool.{false≢true}
use Rattle.wire.specs.Each.{Each}
use Rattle.wire.proofs.Each.{each_append}
use Rattle.sequence.specs.Arrival.{Arrival, ours, other, never}
use Rattle.sequence.specs.Event.{Event, lost_in, got_in, seen}
use Rattle.sequence.specs.Rule.{Ruled, late, onward, Ended, too_far, ended, is_onward, is_ended, state_after, events_of, ended_events, ruling, last_state, all_events, onward_calls, JoinsAtMost, Follows}
use Rattle.sequence.specs.Group.{Group, packets_in, packets_of, EachHanded, whole_of}
use Rattle.sequence.specs.Codec.{Checked, bad, good, fed, refusal, Codec, feed_checked, went, feed_all, Does, HandsOut, OwesAll}
use Rattle.sequence.specs.Joiner.{numbered, Parts, Answer, refuses, too_late, takes, not_shut, shut, Now, Made, stays, is_full, by_went, by_check, by_rule, by_heard, shut_went, shut_by, close, answers, final, is_taken, is_refused, handed_by, handed_out, bytes_of, is_other}
use Rattle.sequence.specs.Demand.{Told, Delivered}
use Rattle.sequence.proofs.Feeding.{AtMost, Yields, yields_held, Split, split, split_end, lost_in_append, lost_in_as_got, lost_in_seen, lost_in_bound, all_whole, groups_yield}

each_at : {A : Type 0} (Ok : A → Type 0) (xs : List A) (z : A) → Each Ok xs → (i : ℕ) → i < length xs → Ok (get_or xs i z)
each_at Ok [] z e i h = absurd (not-suc-le-zero h)
each_at Ok (x ∷ xs) z e zero h = e.0
each_at Ok (x ∷ xs) z e (suc i) h = each_at Ok xs z e.1 i (le_of_suc-le-suc h)

-- ---- a packet that a codec joins passes the checks of the packet alone

not_fed : {E Run O : Type 0} {e : E} {next : Run} {out : List O} → refusal e ≡ fed next out → ⊥
not_fed h = let z : ◌≡◌ {A = ℕ} 0 1 = cc in omega arith

module _ {K E P C Run O : Type 0} (codec : Codec K E P C Run O) where
  -- its check does not refuse it
  abbrev pub Passes : P → Type 0
  Passes p = (c : C) × (codec.check p ≡ good c)

  module _ (Enough : K → Type 0) (k : K) (enough : Enough k) where
    does_pass : (run : Run) (p : P) (next : Run) (out : List O) → Does codec Enough run p next out → Passes p
    does_pass run p next out d = go (codec.check p) (d k enough)
      where
        go : (x : Checked E C) → feed_checked codec k run x ≡ fed next out → (c : C) × (x ≡ good c)
        go (bad e) h = absurd (not_fed h)
        go (good c) h = (c, refl)

    hands_pass : (run : Run) (ps : List P) (o : O) → HandsOut codec Enough run ps o → Each Passes ps
    hands_pass run [] o h = tt
    hands_pass run (p ∷ []) o h = (does_pass run p h.0 (o ∷ []) h.1, tt)
    hands_pass run (p ∷ q ∷ ps) o h = (does_pass run p h.0 [] h.1, hands_pass h.0 (q ∷ ps) o h.2)

    all_pass : (run : Run) (gs : List (Group P O)) → OwesAll codec Enough gs → Each Passes (packets_of gs)
    all_pass run [] w = tt
    all_pass run (g ∷ gs) w =
        each_append Passes (packets_in g) (packets_of gs) (hands_pass run (packets_in g) g.handed (w.0.hands run)) (all_pass run gs w.1)

    pub owed_pass : Run → (gs : List (Group P O)) → OwesAll codec Enough gs → (z : P) (i : ℕ) → i < length (packets_of gs) →
        Passes (get_or (packets_of gs) i z)
    owed_pass run gs w z i h = each_at Passes (packets_of gs) z (all_pass run gs w) i h

-- ---- the calls

module _ {B K E P C Run O : Type 0} (j : Parts B K E P C Run O) (Enough : K → Type 0) (number : ℕ → ℕ) (sent : ℕ → B) (packet : ℕ → P)
    (n c : ℕ) (Ok : O → Type 0) (reads : (i : ℕ) → i < n → j.reader (sent i) ≡ numbered (number i) (packet i))
    (passes : (i : ℕ) → i < n → Passes j.codec (packet i))
    (roomy : (k : K) (out : List O) → Enough k → AtMost Ok c out → j.too_much k out ≡ false) where
  abbrev Seq : Type 0
  Seq = j.rule.State

  -- what is so of calls that were answered, and of the state `last` behind them: `taken` and `refused` call by call, what was handed
  -- out in all, and the missed total at closing
  pub record Answered (said : List (Answer E O)) (last : Now j) (taken refused : List Bool) (out : List O) (missed : ℕ) : Type 0 where
    pub took : map is_taken said ≡ taken
    pub turned : map is_refused said ≡ refused
    pub end : List O
    pub missed_last : ℕ
    pub shuts : (k : K) → Enough k → close j k last (number n) ≡ shut missed_last missed end
    pub handed : handed_out said ++ end ≡ out

  -- ---- one call more

  went_on : (a : Answer E O) (now : List O) (said : List (Answer E O)) (last : Now j) (taken refused : List Bool) (out : List O) (missed : ℕ) →
      handed_by a ≡ now → Answered said last taken refused out missed →
      Answered (a ∷ said) last (is_taken a ∷ taken) (is_refused a ∷ refused) (now ++ out) missed
  went_on a now said last taken refused out missed e w =
      record {
        took = ap (λ (l : List Bool). is_taken a ∷ l) w.took;
        turned = ap (λ (l : List Bool). is_refused a ∷ l) w.turned;
        end = w.end;
        missed_last = w.missed_last;
        shuts = w.shuts;
        handed =
            append_assoc (handed_by a) (handed_out said) w.end
            ∙ ap₂ (λ (x y : List O). x ++ y) e w.handed;
      }

  -- what a call says, its state and the calls behind it
  abbrev AnsweredFrom : (ℕ → K) → Made j → List (Arrival B) → List Bool → List Bool → List O → ℕ → Type 0
  AnsweredFrom rooms c later taken refused out missed =
      Answered (c.answer ∷ answers j (λ i. rooms (suc i)) c.state (map (bytes_of sent) later))
      (final j (λ i. rooms (suc i)) c.state (map (bytes_of sent) later)) taken refused out missed

  abbrev events_from : Seq → List (Arrival B) → List (Event P)
  events_from seq later = all_events j.rule number packet n seq later

  abbrev calls_from : Seq → List (Arrival B) → List Bool
  calls_from seq later = onward_calls j.rule number packet n seq later

  -- there is room for what a call hands out
  has_room : (k : K) (m : ℕ) (out : List O) → Enough k → m ≤ c → AtMost Ok m out → j.too_much k out ≡ false
  has_room k m out h le a = roomy k out h (record { few = omega (arith, a.few); each = a.each })

  -- what is known of a state and of what arrives from there on; `out` is what will be handed out
  record Ready (s : Now j) (later : List (Arrival B)) (out : List O) : Type 0 where
    yields : Yields j.codec Enough Ok s.run (events_from s.seq later) out
    fits : s.missed + lost_in (events_from s.seq later) ≤ j.limit
    ends : is_ended (j.rule.close (last_state j.rule number packet n s.seq later) (number n)) ≡ true
    joins : JoinsAtMost j.rule number packet n c s.seq later
    told : Told j n later

  -- the goal, from any state on
  abbrev Goal : List (Arrival B) → Type 0
  Goal later =
      (rooms : ℕ → K) → ((i : ℕ) → Enough (rooms i)) → (s : Now j) (out : List O) → Ready s later out →
      Answered (answers j rooms s (map (bytes_of sent) later)) (final j rooms s (map (bytes_of sent) later))
      (calls_from s.seq later) (map is_other later) out (s.missed + lost_in (events_from s.seq later))

  at_end_lem : Goal []
  at_end_lem rooms enough s out r = go (j.rule.close s.seq (number n)) refl r.yields r.fits r.ends r.joins
    where
      go : (x : Ended P) → j.rule.close s.seq (number n) ≡ x → Yields j.codec Enough Ok s.run (ended_events x) out →
          s.missed + lost_in (ended_events x) ≤ j.limit → is_ended x ≡ true → got_in (ended_events x) ≤ c →
          Answered [] s [] [] out (s.missed + lost_in (ended_events x))
      go too_far e y fits ends joins = absurd (false≢true ends)
      go (ended es) e y fits ends joins =
          let f : (next : Run) × ((k : K) → Enough k → feed_all j.codec k s.run es ≡ went next (lost_in es) out) × AtMost Ok (got_in es) out =
          split_end j.codec Enough Ok s.run es out y in
          let low : is_full j s (lost_in es) ≡ false = le-ltb j.limit (s.missed + lost_in es) fits in
          record {
            took = refl;
            turned = refl;
            end = out;
            missed_last = lost_in es;
            shuts =
                λ k h. ap (shut_by j k s) e
                ∙ ap (λ (b : Bool). cond b (not_shut j.over_limit) (shut_went j k s (feed_all j.codec k s.run es))) low
                ∙ ap (shut_went j k s) (f.1 k h)
                ∙ ap₂ (λ (a b : Bool). cond a (not_shut j.over_limit) (cond b (not_shut j.over_room) (shut (lost_in es) (s.missed + lost_in es) out)))
                low (has_room k (got_in es) out h joins f.2);
            handed = refl;
          }

  -- a call that changes nothing
  unmoved : (a : Answer E O) → handed_by a ≡ [] → (later : List (Arrival B)) → Goal later →
      (rooms : ℕ → K) → ((i : ℕ) → Enough (rooms i)) → (s : Now j) (out : List O) → Ready s later out →
      AnsweredFrom rooms (stays j s a) later (is_taken a ∷ calls_from s.seq later) (is_refused a ∷ map is_other later) out
      (s.missed + lost_in (events_from s.seq later))
  unmoved a e later rec rooms enough s out r =
      went_on a [] (answers j (λ i. rooms (suc i)) s (map (bytes_of sent) later))
      (final j (λ i. rooms (suc i)) s (map (bytes_of sent) later)) (calls_from s.seq later) (map is_other later) out
      (s.missed + lost_in (events_from s.seq later)) e (rec (λ i. rooms (suc i)) (λ i. enough (suc i)) s out r)

  -- a packet of ours that the rule goes on at
  module _ (later : List (Arrival B)) (rec : Goal later) (rooms : ℕ → K) (enough : (i : ℕ) → Enough (rooms i)) (s : Now j) (out : List O)
      (p : P) (pass : Passes j.codec p) (seq : Seq) (es : List (Event P)) (y : Yields j.codec Enough Ok s.run (es ++ events_from seq later) out)
      (fits : s.missed + lost_in (es ++ events_from seq later) ≤ j.limit) (few : got_in es ≤ c) where
    parts : Split j.codec Enough Ok s.run es (events_from seq later) out
    parts = split j.codec Enough Ok s.run es (events_from seq later) out y

    moved : Made j
    moved =
        record {
          state = record { seq = seq; run = parts.next; missed = s.missed + lost_in es };
          answer = takes (lost_in es) parts.now;
        }

    sum : s.missed + lost_in es + lost_in (events_from seq later) ≡ s.missed + lost_in (es ++ events_from seq later)
    sum = omega (arith, lost_in_append es (events_from seq later))

    low : is_full j s (lost_in es) ≡ false
    low = le-ltb j.limit (s.missed + lost_in es) (omega (arith, sum))

    made : by_rule j (rooms 0) s p (onward seq es) ≡ moved
    unfolding moved
    made =
        ap (λ (b : Bool). cond b (stays j s (refuses j.over_limit)) (by_check j (rooms 0) s seq es (j.codec.check p))) low
        ∙ ap (by_check j (rooms 0) s seq es) pass.1
        ∙ ap (by_went j (rooms 0) s seq) (parts.feeds (rooms 0) (enough 0))
        ∙ ap₂ (λ (a b : Bool). cond a (stays j s (refuses j.over_limit)) (cond b (stays j s (refuses j.over_room)) moved))
        low (has_room (rooms 0) (got_in es) parts.now (enough 0) few parts.few)

    went_onward : is_ended (j.rule.close (last_state j.rule number packet n seq later) (number n)) ≡ true →
        JoinsAtMost j.rule number packet n c seq later → Told j n later →
        AnsweredFrom rooms (by_rule j (rooms 0) s p (onward seq es)) later (true ∷ calls_from seq later) (false ∷ map is_other later) out
        (s.missed + lost_in (es ++ events_from seq later))
    unfolding moved
    went_onward ends joins told =
        subst (λ (x : Made j). AnsweredFrom rooms x later (true ∷ calls_from seq later) (false ∷ map is_other later) out (s.missed + lost_in (es ++ events_from seq later)))
        (sym made)
        (subst₂ (λ (o : List O) (m : ℕ). AnsweredFrom rooms moved later (true ∷ calls_from seq later) (false ∷ map is_other later) o m)
        (sym parts.are) sum
        (went_on moved.answer parts.now (answers j (λ i. rooms (suc i)) moved.state (map (bytes_of sent) later))
        (final j (λ i. rooms (suc i)) moved.state (map (bytes_of sent) later)) (calls_from seq later) (map is_other later)
        parts.later (s.missed + lost_in es + lost_in (events_from seq later)) refl
        (rec (λ i. rooms (suc i)) (λ i. enough (suc i)) moved.state parts.later
        (record { yields = parts.goes; fits = omega (arith, sum); ends = ends; joins = joins; told = told }))))

  -- a packet of ours: the rule does nothing with it, or goes on
  at_ours : (i : ℕ) (later : List (Arrival B)) → Goal later → Goal (ours i ∷ later)
  at_ours i later rec rooms enough s out r =
      subst (λ (x : Made j). AnsweredFrom rooms x later (calls_from s.seq (ours i ∷ later)) (false ∷ map is_other later) out (s.missed + lost_in (events_from s.seq (ours i ∷ later))))
      (sym (ap (by_heard j (rooms 0) s) (reads i r.told.0)))
      (go (ruling j.rule number packet n s.seq i) r.yields r.fits r.ends r.joins)
    where
      go : (x : Ruled Seq P) →
          Yields j.codec Enough Ok s.run (events_of x ++ events_from (state_after s.seq x) later) out →
          s.missed + lost_in (events_of x ++ events_from (state_after s.seq x) later) ≤ j.limit →
          is_ended (j.rule.close (last_state j.rule number packet n (state_after s.seq x) later) (number n)) ≡ true →
          (got_in (events_of x) ≤ c) × JoinsAtMost j.rule number packet n c (state_after s.seq x) later →
          AnsweredFrom rooms (by_rule j (rooms 0) s (packet i) x) later (is_onward x ∷ calls_from (state_after s.seq x) later)
          (false ∷ map is_other later) out (s.missed + lost_in (events_of x ++ events_from (state_after s.seq x) later))
      go late y fits ends joins =
          unmoved too_late refl later rec rooms enough s out
          (record { yields = y; fits = fits; ends = ends; joins = joins.1; told = r.told.1 })
      go (onward seq es) y fits ends joins =
          went_onward later rec rooms enough s out (packet i) (passes i r.told.0) seq es y fits joins.0 ends joins.1 r.told.1

  -- anything else is refused by the reader
  at_other : (b : B) (later : List (Arrival B)) → Goal later → Goal (other b ∷ later)
  at_other b later rec rooms enough s out r =
      subst (λ (x : Made j). AnsweredFrom rooms x later (false ∷ calls_from s.seq later) (true ∷ map is_other later) out (s.missed + lost_in (events_from s.seq later)))
      (sym (ap (by_heard j (rooms 0) s) r.told.0.1))
      (unmoved (refuses r.told.0.0) refl later rec rooms enough s out
      (record { yields = r.yields; fits = r.fits; ends = r.ends; joins = r.joins; told = r.told.1 }))

  goes : (later : List (Arrival B)) → Goal later
  goes [] = at_end_lem
  goes (ours i ∷ later) = at_ours i later (goes later)
  goes (other b ∷ later) = at_other b later (goes later)

  -- ---- demand 3

  pub delivered : (gs : List (Group P O)) → length (packets_of gs) ≡ n → n ≤ j.limit → OwesAll j.codec Enough gs → EachHanded Ok gs →
      (rooms : ℕ → K) → ((i : ℕ) → Enough (rooms i)) → (s : Now j) → s.missed ≡ 0 →
      (arrivals : List (Arrival B)) (came : ℕ → Bool) (calls : List Bool) →
      Follows j.rule number packet n c s.seq arrivals (seen came 0 (packets_of gs)) calls → Told j n arrivals →
      Delivered j Enough number sent n rooms s arrivals came calls gs
  delivered gs count few owes ok rooms enough s fresh arrivals came calls f told =
      record {
        accepts = w.took ∙ f.goes;
        at_end = w.end;
        hands_out = w.handed;
        last_missed = w.missed_last;
        closes = λ k h. w.shuts k h ∙ ap (λ (m : ℕ). shut w.missed_last m w.end) total;
        complete = λ none. w.handed ∙ all_whole came 0 gs (lost_in_seen came 0 (packets_of gs) ∙ ap (never came 0) count ∙ none);
        refuses_others = w.turned;
      }
    where
      holed : lost_in (events_from s.seq arrivals) ≡ lost_in (seen came 0 (packets_of gs))
      holed = sym (lost_in_as_got (events_from s.seq arrivals)) ∙ ap lost_in f.sees

      lost : lost_in (events_from s.seq arrivals) ≡ never came 0 n
      lost = holed ∙ lost_in_seen came 0 (packets_of gs) ∙ ap (never came 0) count

      total : s.missed + lost_in (events_from s.seq arrivals) ≡ never came 0 n
      total = omega (arith, fresh, lost)

      w : Answered (answers j rooms s (map (bytes_of sent) arrivals)) (final j rooms s (map (bytes_of sent) arrivals))
          (calls_from s.seq arrivals) (map is_other arrivals) (whole_of came 0 gs) (s.missed + lost_in (events_from s.seq arrivals))
      w =
          goes arrivals rooms enough s (whole_of came 0 gs)
          (record {
            yields =
                yields_held j.codec Enough Ok (events_from s.seq arrivals) s.run (whole_of came 0 gs)
                (subst (λ (es : List (Event P)). Yields j.codec Enough Ok s.run es (whole_of came 0 gs)) (sym f.sees)
                (groups_yield j.codec Enough Ok came 0 s.run gs owes ok));
            fits = omega (arith, fresh, holed, lost_in_bound came 0 (packets_of gs), count, few);
            ends = f.ends;
            joins = f.joins;
            told = told;
          })
