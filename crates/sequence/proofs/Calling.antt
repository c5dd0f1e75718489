-- A call goes by what the codec does to each event: so where one codec stands for another their calls say the same, and by the plain
-- rule the events are holes and one packet. Assumes nothing.
use Rattle.std.proofs.Common.{◌≡◌, ℕ, ◌+◌, ◌≤◌, Bool, true, false, cond, List, [], ◌∷◌, refl, ap, ◌∙◌, subst, ap₂, arith, ltb-false}
use Rattle.sequence.specs.Number.{distance_of, next_of, is_late}
use Rattle.sequence.specs.Event.{Event, lost, got, held, holes, lost_in}
use Rattle.sequence.specs.Rule.{Ruled, late, onward, Ended, too_far, ended, arrive_by, close_by, plain}
use Rattle.sequence.specs.Codec.{Checked, bad, good, Fed, refusal, fed, Codec, feed_checked, join, Went, stopped, went, missing, behind, got_then, held_then, feed_all}
use Rattle.sequence.specs.Joiner.{Heard, turned_away, numbered, Parts, State, refuses, too_late, takes, not_shut, shut, Now, Made, stays, is_full, by_went, by_check, by_rule, by_heard, call, shut_went, shut_by, close}
use Rattle.sequence.specs.Refines.{fed_as, went_as, state_as, called_as, Refines, with_codec, ruled_by}
use Rattle.sequence.specs.Plain.{plain_stays, plain_fed, run_at, plain_check, plain_distance, plain_heard, plain_shut}
use Rattle.sequence.proofs.Feeding.{lost_in_holes, went_behind, feed_holes, feed_only_holes}

-- ---- each way a call can end

-- a call that accepts
abbrev pub taken : {B K E P C Run O : Type 0} (j : Parts B K E P C Run O) → Now j → j.rule.State → Run → ℕ → List O → Made j
taken j s seq run count out = record { state = record { seq = seq; run = run; missed = s.missed + count }; answer = takes count out }

module _ {B K E P C Run O : Type 0} (j : Parts B K E P C Run O) (k : K) (s : Now j) where
  -- what is so where a call accepts
  pub record Accepts (b : B) (seq : j.rule.State) (run : Run) (count : ℕ) (out : List O) : Type 0 where
    pub number : ℕ
    pub packet : P
    -- what the packet holds
    pub holds : C
    pub events : List (Event P)
    pub reads : j.reader b ≡ numbered number packet
    pub rules : j.rule.arrive s.seq number packet ≡ onward seq events
    pub checks : j.codec.check packet ≡ good holds
    pub feeds : feed_all j.codec k s.run events ≡ went run count out
    pub fits : s.missed + count ≤ j.limit
    pub roomy : j.too_much k out ≡ false

  module _ (Q : Made j → Type 0) (b : B) (refused : (e : E) → Q (stays j s (refuses e))) (too_late_lem : Q (stays j s too_late))
      (accepted : (seq : j.rule.State) (run : Run) (count : ℕ) (out : List O) → Accepts b seq run count out → Q (taken j s seq run count out)) where
    went_case : (number : ℕ) (p : P) (x : C) (seq : j.rule.State) (es : List (Event P)) → j.reader b ≡ numbered number p →
        j.rule.arrive s.seq number p ≡ onward seq es → j.codec.check p ≡ good x →
        (w : Went E Run O) → feed_all j.codec k s.run es ≡ w → Q (by_went j k s seq w)
    went_case number p x seq es reads rules checks (stopped e) feeds = refused e
    went_case number p x seq es reads rules checks (went run count out) feeds = go (is_full j s count) (j.too_much k out) refl refl
      where
        go : (full much : Bool) → is_full j s count ≡ full → j.too_much k out ≡ much →
            Q (cond full (stays j s (refuses j.over_limit)) (cond much (stays j s (refuses j.over_room)) (taken j s seq run count out)))
        go true much fits roomy = refused j.over_limit
        go false true fits roomy = refused j.over_room
        go false false fits roomy =
            accepted seq run count out
            (record {
              number = number;
              packet = p;
              holds = x;
              events = es;
              reads = reads;
              rules = rules;
              checks = checks;
              feeds = feeds;
              fits = ltb-false j.limit (s.missed + count) fits;
              roomy = roomy;
            })

    check_case : (number : ℕ) (p : P) (seq : j.rule.State) (es : List (Event P)) → j.reader b ≡ numbered number p →
        j.rule.arrive s.seq number p ≡ onward seq es → (x : Checked E C) → j.codec.check p ≡ x → Q (by_check j k s seq es x)
    check_case number p seq es reads rules (bad e) checks = refused e
    check_case number p seq es reads rules (good x) checks =
        went_case number p x seq es reads rules checks (feed_all j.codec k s.run es) refl

    rule_case : (number : ℕ) (p : P) → j.reader b ≡ numbered number p → (x : Ruled j.rule.State P) →
        j.rule.arrive s.seq number p ≡ x → Q (by_rule j k s p x)
    rule_case number p reads late rules = too_late_lem
    rule_case number p reads (onward seq es) rules = go (is_full j s (lost_in es))
      where
        go : (full : Bool) → Q (cond full (stays j s (refuses j.over_limit)) (by_check j k s seq es (j.codec.check p)))
        go true = refused j.over_limit
        go false = check_case number p seq es reads rules (j.codec.check p) refl

    heard : (h : Heard E P) → j.reader b ≡ h → Q (by_heard j k s h)
    heard (turned_away e) reads = refused e
    heard (numbered number p) reads = rule_case number p reads (j.rule.arrive s.seq number p) refl

    -- a call refuses, is too late, or accepts: what is so of each is so of the call
    pub call_cases : Q (call j k s b)
    call_cases = heard (j.reader b) refl

-- ---- one codec for another: events

module _ {K E P C R A O : Type 0} {c : Codec K E P C R O} {a : Codec K E P C A O} {stands : R → A} {Fit : K → R → Type 0}
    (refines : Refines c a stands Fit) (k : K) where
  -- the run behind a packet is as it must be, and that behind events
  abbrev FedFits : Fed E R O → Type 0
  FedFits (refusal e) = Unit {0}
  FedFits (fed run out) = Fit k run

  abbrev WentFits : Went E R O → Type 0
  WentFits (stopped e) = Unit {0}
  WentFits (went run missed out) = Fit k run

  join_fits : (run : R) (p : P) → Fit k run → FedFits (join c k run p)
  join_fits run p fit = checked (c.check p)
    where
      checked : (x : Checked E C) → FedFits (feed_checked c k run x)
      checked (bad e) = tt
      checked (good x) = go (c.feed k run x) refl
        where
          go : (f : Fed E R O) → c.feed k run x ≡ f → FedFits f
          go (refusal e) h = tt
          go (fed next out) h = refines.feed_fits k run x fit next out h

  join_as : (run : R) (p : P) → Fit k run → fed_as stands (join c k run p) ≡ join a k (stands run) p
  join_as run p fit = checked (c.check p) ∙ ap (feed_checked a k (stands run)) (refines.checks p)
    where
      checked : (x : Checked E C) → fed_as stands (feed_checked c k run x) ≡ feed_checked a k (stands run) x
      checked (bad e) = refl
      checked (good x) = refines.feeds k run x fit

  missing_as : (w : Went E R O) → went_as stands (missing w) ≡ missing (went_as stands w)
  missing_as (stopped e) = refl
  missing_as (went run missed out) = refl

  behind_as : (out : List O) (w : Went E R O) → went_as stands (behind out w) ≡ behind out (went_as stands w)
  behind_as out (stopped e) = refl
  behind_as out (went run missed more) = refl

  missing_fits : (w : Went E R O) → WentFits w → WentFits (missing w)
  missing_fits (stopped e) h = tt
  missing_fits (went run missed out) h = h

  behind_fits : (out : List O) (w : Went E R O) → WentFits w → WentFits (behind out w)
  behind_fits out (stopped e) h = tt
  behind_fits out (went run missed more) h = h

  -- what goes on behind a packet
  module _ (go : R → Went E R O) (on : (run : R) → Fit k run → WentFits (go run)) where
    got_fits : (f : Fed E R O) → FedFits f → WentFits (got_then f go)
    got_fits (refusal e) h = tt
    got_fits (fed run out) h = behind_fits out (go run) (on run h)

    held_fits : (dropped : R) → Fit k dropped → (f : Fed E R O) → FedFits f → WentFits (held_then dropped f go)
    held_fits dropped fit (refusal e) h = missing_fits (go dropped) (on dropped fit)
    held_fits dropped fit (fed run out) h = behind_fits out (go run) (on run h)

  module _ (go : R → Went E R O) (go' : A → Went E A O) (on : (run : R) → Fit k run → went_as stands (go run) ≡ go' (stands run)) where
    got_as : (f : Fed E R O) → FedFits f → went_as stands (got_then f go) ≡ got_then (fed_as stands f) go'
    got_as (refusal e) h = refl
    got_as (fed run out) h = behind_as out (go run) ∙ ap (behind out) (on run h)

    held_as : (dropped : R) → Fit k dropped → (f : Fed E R O) → FedFits f →
        went_as stands (held_then dropped f go) ≡ held_then (stands dropped) (fed_as stands f) go'
    held_as dropped fit (refusal e) h = missing_as (go dropped) ∙ ap missing (on dropped fit)
    held_as dropped fit (fed run out) h = behind_as out (go run) ∙ ap (behind out) (on run h)

  feed_all_fits : (es : List (Event P)) (run : R) → Fit k run → WentFits (feed_all c k run es)
  feed_all_fits [] run fit = fit
  feed_all_fits (lost ∷ es) run fit =
      missing_fits (feed_all c k (c.drop run) es) (feed_all_fits es (c.drop run) (refines.drop_fits k run fit))
  feed_all_fits (got p ∷ es) run fit =
      got_fits (λ (r : R). feed_all c k r es) (λ r f. feed_all_fits es r f) (join c k run p) (join_fits run p fit)
  feed_all_fits (held p ∷ es) run fit =
      held_fits (λ (r : R). feed_all c k r es) (λ r f. feed_all_fits es r f) (c.drop run) (refines.drop_fits k run fit)
      (join c k run p) (join_fits run p fit)

  pub feed_all_as : (es : List (Event P)) (run : R) → Fit k run → went_as stands (feed_all c k run es) ≡ feed_all a k (stands run) es
  feed_all_as [] run fit = refl
  feed_all_as (lost ∷ es) run fit =
      missing_as (feed_all c k (c.drop run) es)
      ∙ ap missing (feed_all_as es (c.drop run) (refines.drop_fits k run fit))
      ∙ ap (λ (r : A). missing (feed_all a k r es)) (refines.drops run)
  feed_all_as (got p ∷ es) run fit =
      got_as (λ (r : R). feed_all c k r es) (λ (r : A). feed_all a k r es) (λ r f. feed_all_as es r f) (join c k run p) (join_fits run p fit)
      ∙ ap (λ (f : Fed E A O). got_then f (λ (r : A). feed_all a k r es)) (join_as run p fit)
  feed_all_as (held p ∷ es) run fit =
      held_as (λ (r : R). feed_all c k r es) (λ (r : A). feed_all a k r es) (λ r f. feed_all_as es r f) (c.drop run)
      (refines.drop_fits k run fit) (join c k run p) (join_fits run p fit)
      ∙ ap₂ (λ (d : A) (f : Fed E A O). held_then d f (λ (r : A). feed_all a k r es)) (refines.drops run) (join_as run p fit)

-- ---- one codec for another: calls

module _ {B K E P C R A O : Type 0} (j : Parts B K E P C R O) {a : Codec K E P C A O} {stands : R → A} {Fit : K → R → Type 0}
    (refines : Refines j.codec a stands Fit) (k : K) (s : Now j) (fit : Fit k s.run) where
  -- the run stays as it must be
  pub call_fits : (b : B) → Fit k (call j k s b).state.run
  call_fits b =
      call_cases j k s (λ (m : Made j). Fit k m.state.run) b (λ e. fit) fit
      (λ seq run count out so. subst (WentFits refines k) so.feeds (feed_all_fits refines k so.events s.run fit))

  abbrev seen_as : Made j → Made (with_codec j a)
  seen_as m = called_as stands m

  as_cond : (b : Bool) (x y : Made j) → seen_as (cond b x y) ≡ cond b (seen_as x) (seen_as y)
  as_cond true x y = refl
  as_cond false x y = refl

  by_went_as : (seq : j.rule.State) (w : Went E R O) →
      seen_as (by_went j k s seq w) ≡ by_went (with_codec j a) k (state_as stands s) seq (went_as stands w)
  by_went_as seq (stopped e) = refl
  by_went_as seq (went run count out) = go (is_full j s count) (j.too_much k out)
    where
      go : (full much : Bool) →
          seen_as (cond full (stays j s (refuses j.over_limit)) (cond much (stays j s (refuses j.over_room)) (taken j s seq run count out)))
          ≡ cond full (seen_as (stays j s (refuses j.over_limit))) (cond much (seen_as (stays j s (refuses j.over_room))) (seen_as (taken j s seq run count out)))
      go true much = refl
      go false true = refl
      go false false = refl

  by_check_as : (seq : j.rule.State) (es : List (Event P)) (x : Checked E C) →
      seen_as (by_check j k s seq es x) ≡ by_check (with_codec j a) k (state_as stands s) seq es x
  by_check_as seq es (bad e) = refl
  by_check_as seq es (good x) =
      by_went_as seq (feed_all j.codec k s.run es)
      ∙ ap (by_went (with_codec j a) k (state_as stands s) seq) (feed_all_as refines k es s.run fit)

  by_rule_as : (p : P) (x : Ruled j.rule.State P) → seen_as (by_rule j k s p x) ≡ by_rule (with_codec j a) k (state_as stands s) p x
  by_rule_as p late = refl
  by_rule_as p (onward seq es) =
      as_cond (is_full j s (lost_in es)) (stays j s (refuses j.over_limit)) (by_check j k s seq es (j.codec.check p))
      ∙ ap (λ (m : Made (with_codec j a)). cond (is_full j s (lost_in es)) (seen_as (stays j s (refuses j.over_limit))) m)
      (by_check_as seq es (j.codec.check p) ∙ ap (by_check (with_codec j a) k (state_as stands s) seq es) (refines.checks p))

  by_heard_as : (h : Heard E P) → seen_as (by_heard j k s h) ≡ by_heard (with_codec j a) k (state_as stands s) h
  by_heard_as (turned_away e) = refl
  by_heard_as (numbered number p) = by_rule_as p (j.rule.arrive s.seq number p)

  -- the calls say the same
  pub call_as : (b : B) → called_as stands (call j k s b) ≡ call (with_codec j a) k (state_as stands s) b
  call_as b = by_heard_as (j.reader b)

  shut_went_as : (w : Went E R O) → shut_went j k s w ≡ shut_went (with_codec j a) k (state_as stands s) (went_as stands w)
  shut_went_as (stopped e) = refl
  shut_went_as (went run count out) = refl

  shut_by_as : (x : Ended P) → shut_by j k s x ≡ shut_by (with_codec j a) k (state_as stands s) x
  shut_by_as too_far = refl
  shut_by_as (ended es) =
      ap (cond (is_full j s (lost_in es)) (not_shut j.over_limit))
      (shut_went_as (feed_all j.codec k s.run es)
      ∙ ap (shut_went (with_codec j a) k (state_as stands s)) (feed_all_as refines k es s.run fit))

  pub close_as : (number : ℕ) → close j k s number ≡ close (with_codec j a) k (state_as stands s) number
  close_as number = shut_by_as (j.rule.close s.seq number)

-- ---- the plain rule

module _ {B K E P C Run O : Type 0} (j : Parts B K E P C Run O) (k : K) (s : State ℕ Run) where
  abbrev plainly : Parts B K E P C Run O
  plainly = ruled_by (plain P) j

  lost_before : (d : ℕ) (es : List (Event P)) → lost_in es ≡ 0 → lost_in (holes d es) ≡ d
  lost_before d es none = let e : lost_in (holes d es) ≡ d + lost_in es = lost_in_holes d es in omega arith

  plain_went : (d number : ℕ) (f : Fed E Run O) → is_full plainly s d ≡ false →
      by_went plainly k s (next_of number) (went_behind d f) ≡ plain_fed j k s d number f
  plain_went d number (refusal e) low = refl
  plain_went d number (fed run out) low =
      ap (λ (b : Bool). cond b (plain_stays j k s (refuses j.over_limit)) (plain_fed j k s d number (fed run out))) low

  plain_closed : (d : ℕ) → shut_by plainly k s (close_by d) ≡ plain_shut j k s d
  plain_closed d = go (is_late d) (is_full plainly s d) refl
    where
      only : (next : Run) × (feed_all j.codec k s.run (holes d []) ≡ went next d [])
      only = feed_only_holes j.codec k s.run d

      go : (far full : Bool) → is_full plainly s d ≡ full →
          shut_by plainly k s (cond far too_far (ended (holes d [])))
          ≡ cond far (not_shut j.over_closing)
          (cond full (not_shut j.over_limit) (cond (j.too_much k []) (not_shut j.over_room) (shut d (s.missed + d) [])))
      go true full low = refl
      go false true low = rw (lost_before d [] refl, low)
      go false false low = rw (lost_before d [] refl, low, only.1, low)

  pub plain_close : (number : ℕ) → close (ruled_by (plain P) j) k s number ≡ plain_shut j k s (distance_of number s.seq)
  plain_close number = plain_closed (distance_of number s.seq)

  module _ (again : (run : Run) → j.codec.drop (j.codec.drop run) ≡ j.codec.drop run) where
    plain_checked : (d number : ℕ) (p : P) → is_full plainly s d ≡ false → (x : Checked E C) → j.codec.check p ≡ x →
        by_check plainly k s (next_of number) (holes d (got p ∷ [])) x ≡ plain_check j k s d number x
    plain_checked d number p low (bad e) checks = refl
    plain_checked d number p low (good x) checks =
        ap (by_went plainly k s (next_of number))
        (feed_holes j.codec again k p s.run d
        ∙ ap (λ (y : Checked E C). went_behind d (feed_checked j.codec k (run_at j k s d) y)) checks)
        ∙ plain_went d number (j.codec.feed k (run_at j k s d) x) low

    plain_arrived : (d number : ℕ) (p : P) → by_rule plainly k s p (arrive_by d number p) ≡ plain_distance j k s d number p
    plain_arrived d number p = go (is_late d) (is_full plainly s d) refl
      where
        go : (old full : Bool) → is_full plainly s d ≡ full →
            by_rule plainly k s p (cond old late (onward (next_of number) (holes d (got p ∷ []))))
            ≡ cond old (plain_stays j k s too_late)
            (cond full (plain_stays j k s (refuses j.over_limit)) (plain_check j k s d number (j.codec.check p)))
        go true full low = refl
        go false true low = rw (lost_before d (got p ∷ []) refl, low)
        go false false low = rw (lost_before d (got p ∷ []) refl, low) (plain_checked d number p low (j.codec.check p) refl)

    plain_heard_lem : (h : Heard E P) → by_heard plainly k s h ≡ plain_heard j k s h
    plain_heard_lem (turned_away e) = refl
    plain_heard_lem (numbered number p) = plain_arrived (distance_of number s.seq) number p

    pub plain_call : (b : B) → call (ruled_by (plain P) j) k s b ≡ plain_heard j k s (j.reader b)
    plain_call b = plain_heard_lem (j.reader b)
