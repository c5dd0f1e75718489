-- A group whose packets all came is handed out with the last; one with a hole is not, since the hole drops the run and the rest of
-- its packets then yield nothing. Assumes nothing.
use Rattle.std.proofs.Common.{◌≡◌, ℕ, zero, suc, ◌+◌, ◌≤◌, Bool, true, false, cond, ◌&&◌, eqb, List, [], ◌∷◌, ◌++◌, map, length, sym, refl, ap, ◌∙◌, subst, ap₂, append_assoc, append-nil, arith}
use lib.Dec.{eqb-suc-zero}
use Rattle.wire.specs.Each.{Each}
use Rattle.sequence.specs.Arrival.{never}
use Rattle.sequence.specs.Event.{Event, lost, got, held, holes, event_of, seen, lost_in, got_in, as_got}
use Rattle.sequence.specs.Group.{Group, packets_in, packets_of, handed_of, EachHanded, all_came, keep, whole_of}
use Rattle.sequence.specs.Codec.{Fed, refusal, fed, Codec, join, Went, stopped, went, missing, behind, got_then, held_then, feed_all, Does, HandsOut, Quiet, OwesAll}

-- ---- events

module _ {P : Type 0} where
  seen_append : (came : ℕ → Bool) (i : ℕ) (ps qs : List P) → seen came i (ps ++ qs) ≡ seen came i ps ++ seen came (i + length ps) qs
  seen_append came i [] qs = let e : i ≡ i + 0 = omega arith in ap (λ (k : ℕ). seen came k qs) e
  seen_append came i (p ∷ ps) qs =
      let e : suc i + length ps ≡ i + suc (length ps) = omega arith in
      ap (λ (es : List (Event P)). event_of (came i) p ∷ es)
      (seen_append came (suc i) ps qs ∙ ap (λ (k : ℕ). seen came (suc i) ps ++ seen came k qs) e)

  pub lost_in_append : (es fs : List (Event P)) → lost_in (es ++ fs) ≡ lost_in es + lost_in fs
  lost_in_append [] fs = omega arith
  lost_in_append (lost ∷ es) fs = let e : lost_in (es ++ fs) ≡ lost_in es + lost_in fs = lost_in_append es fs in omega arith
  lost_in_append (got p ∷ es) fs = lost_in_append es fs
  lost_in_append (held p ∷ es) fs = lost_in_append es fs

  -- wherever a packet came from, the holes are the same
  pub lost_in_as_got : (es : List (Event P)) → lost_in (map as_got es) ≡ lost_in es
  lost_in_as_got [] = refl
  lost_in_as_got (lost ∷ es) = ap (λ (d : ℕ). 1 + d) (lost_in_as_got es)
  lost_in_as_got (got p ∷ es) = lost_in_as_got es
  lost_in_as_got (held p ∷ es) = lost_in_as_got es

  -- the holes are the packets that never came
  pub lost_in_seen : (came : ℕ → Bool) (i : ℕ) (ps : List P) → lost_in (seen came i ps) ≡ never came i (length ps)
  lost_in_seen came i [] = refl
  lost_in_seen came i (p ∷ ps) = go (came i) (lost_in_seen came (suc i) ps)
    where
      go : (b : Bool) → lost_in (seen came (suc i) ps) ≡ never came (suc i) (length ps) →
          lost_in (event_of b p ∷ seen came (suc i) ps) ≡ cond b 0 1 + never came (suc i) (length ps)
      go true e = omega arith
      go false e = omega arith

  pub lost_in_bound : (came : ℕ → Bool) (i : ℕ) (ps : List P) → lost_in (seen came i ps) ≤ length ps
  lost_in_bound came i [] = omega arith
  lost_in_bound came i (p ∷ ps) = go (came i) (lost_in_bound came (suc i) ps)
    where
      go : (b : Bool) → lost_in (seen came (suc i) ps) ≤ length ps → lost_in (event_of b p ∷ seen came (suc i) ps) ≤ suc (length ps)
      go true h = omega arith
      go false h = omega arith

  none_lost : (came : ℕ → Bool) (i : ℕ) (ps : List P) → lost_in (seen came i ps) ≡ 0 → all_came came i ps ≡ true
  none_lost came i [] e = refl
  none_lost came i (p ∷ ps) e = go (came i) (none_lost came (suc i) ps) e
    where
      go : (b : Bool) → (lost_in (seen came (suc i) ps) ≡ 0 → all_came came (suc i) ps ≡ true) →
          lost_in (event_of b p ∷ seen came (suc i) ps) ≡ 0 → (b && all_came came (suc i) ps) ≡ true
      go true rec e = rec e
      go false rec e = absurd (omega arith)

  pub lost_in_holes : (d : ℕ) (es : List (Event P)) → lost_in (holes d es) ≡ d + lost_in es
  lost_in_holes zero es = omega arith
  lost_in_holes (suc d) es = let e : lost_in (holes d es) ≡ d + lost_in es = lost_in_holes d es in omega arith

-- with no hole every group is whole
pub all_whole : {P O : Type 0} (came : ℕ → Bool) (i : ℕ) (gs : List (Group P O)) → lost_in (seen came i (packets_of gs)) ≡ 0 →
    whole_of came i gs ≡ handed_of gs
all_whole came i [] e = refl
all_whole {O = O} came i (g ∷ gs) e =
    let split : lost_in (seen came i (packets_in g)) + lost_in (seen came (i + length (packets_in g)) (packets_of gs)) ≡ 0 =
    sym (lost_in_append (seen came i (packets_in g)) (seen came (i + length (packets_in g)) (packets_of gs)))
    ∙ sym (ap lost_in (seen_append came i (packets_in g) (packets_of gs)))
    ∙ e in
    ap₂ (λ (b : Bool) (os : List O). keep b g.handed os) (none_lost came i (packets_in g) (omega arith))
    (all_whole came (i + length (packets_in g)) gs (omega arith))

-- ---- what is handed out

module _ {O : Type 0} (Ok : O → Type 0) where
  -- one thing at most, and that is so
  abbrev pub AtMostOne : List O → Type 0
  AtMostOne [] = Unit {0}
  AtMostOne (o ∷ []) = Ok o
  AtMostOne (o ∷ o' ∷ out) = ⊥

  -- c things at most, each of which is so
  pub record AtMost (c : ℕ) (out : List O) : Type 0 where
    pub few : length out ≤ c
    pub each : Each Ok out

  at_most_more : (c : ℕ) (now out : List O) → AtMostOne now → AtMost c out → AtMost (1 + c) (now ++ out)
  at_most_more c [] out h a = record { few = omega (arith, a.few); each = a.each }
  at_most_more c (o ∷ []) out h a = record { few = omega (arith, a.few); each = (h, a.each) }
  at_most_more c (o ∷ o' ∷ now) out h a = absurd h

module _ {K E P C Run O : Type 0} (codec : Codec K E P C Run O) (Enough : K → Type 0) (Ok : O → Type 0) where
  -- in every room that is enough, the packet is not refused and hands one thing at most out, and what follows is so
  abbrev pub YieldsThen : Run → P → (Run → List O → Type 0) → List O → Type 0
  YieldsThen run p Then out =
      (next : Run) × (now rest : List O) × Does codec Enough run p next now × Then next rest × (out ≡ now ++ rest) × AtMostOne Ok now

  -- in every room that is enough, the events hand `out` out from the run on, each packet one thing at most, and none is refused, be it of
  -- a call or out of a hold
  abbrev pub Yields : Run → List (Event P) → List O → Type 0
  Yields run [] out = out ≡ []
  Yields run (lost ∷ es) out = Yields (codec.drop run) es out
  Yields run (got p ∷ es) out = YieldsThen run p (λ next rest. Yields next es rest) out
  Yields run (held p ∷ es) out = YieldsThen run p (λ next rest. Yields next es rest) out

  pub yields_held : (es : List (Event P)) (run : Run) (out : List O) → Yields run (map as_got es) out → Yields run es out
  yields_held [] run out y = y
  yields_held (lost ∷ es) run out y = yields_held es (codec.drop run) out y
  yields_held (got p ∷ es) run out y = (y.0, y.1, y.2, y.3, yields_held es y.0 y.2 y.4, y.5, y.6)
  yields_held (held p ∷ es) run out y = (y.0, y.1, y.2, y.3, yields_held es y.0 y.2 y.4, y.5, y.6)

  -- ---- groups with holes

  module _ (came : ℕ → Bool) (rest : List (Event P)) (out : List O) (on : (r : Run) → Yields r rest out) where
    quiet_on : (i : ℕ) (run : Run) (ps : List P) → Quiet codec Enough ps → Yields (codec.drop run) (seen came i ps ++ rest) out
    quiet_on i run [] q = on (codec.drop run)
    quiet_on i run (p ∷ ps) q = go (came i) (λ r. quiet_on (suc i) r ps q.1)
      where
        go : (b : Bool) → ((r : Run) → Yields (codec.drop r) (seen came (suc i) ps ++ rest) out) →
            Yields (codec.drop run) (event_of b p ∷ (seen came (suc i) ps ++ rest)) out
        go true y = (codec.drop run, [], out, q.0 run, y run, refl, tt)
        go false y = y (codec.drop run)

    hands_on : (i : ℕ) (run : Run) (p : P) (ps : List P) (o : O) → Ok o → HandsOut codec Enough run (p ∷ ps) o → Quiet codec Enough ps →
        Yields run (seen came i (p ∷ ps) ++ rest) (keep (all_came came i (p ∷ ps)) o out)
    hands_on i run p [] o ok h q = go (came i)
      where
        go : (b : Bool) → Yields run (event_of b p ∷ rest) (keep (b && true) o out)
        go true = (h.0, o ∷ [], out, h.1, on h.0, refl, ok)
        go false = on (codec.drop run)
    hands_on i run p (p' ∷ ps) o ok h q =
        go (came i) (hands_on (suc i) h.0 p' ps o ok h.2 q.1) (quiet_on (suc i) run (p' ∷ ps) q)
      where
        all : Bool
        all = all_came came (suc i) (p' ∷ ps)

        more : List (Event P)
        more = seen came (suc i) (p' ∷ ps) ++ rest

        go : (b : Bool) → Yields h.0 more (keep all o out) → Yields (codec.drop run) more out →
            Yields run (event_of b p ∷ more) (keep (b && all) o out)
        go true hands quiet = (h.0, [], keep all o out, h.1, hands, refl, tt)
        go false hands quiet = quiet

  pub groups_yield : (came : ℕ → Bool) (i : ℕ) (run : Run) (gs : List (Group P O)) → OwesAll codec Enough gs → EachHanded Ok gs →
      Yields run (seen came i (packets_of gs)) (whole_of came i gs)
  groups_yield came i run [] w ok = refl
  groups_yield came i run (g ∷ gs) w ok =
      subst (λ (es : List (Event P)). Yields run es (whole_of came i (g ∷ gs))) (sym (seen_append came i (packets_in g) (packets_of gs)))
      (hands_on came (seen came (i + length (packets_in g)) (packets_of gs)) (whole_of came (i + length (packets_in g)) gs)
      (λ r. groups_yield came (i + length (packets_in g)) r gs w.1 ok.1)
      i run g.first g.others g.handed ok.0 (w.0.hands run) w.0.quiet)

  -- ---- events fed in parts

  -- `es`, of which none is refused, then `rest`
  pub record Split (run : Run) (es rest : List (Event P)) (out : List O) : Type 0 where
    pub next : Run
    pub now : List O
    pub later : List O
    pub feeds : (k : K) → Enough k → feed_all codec k run es ≡ went next (lost_in es) now
    pub few : AtMost Ok (got_in es) now
    pub goes : Yields next rest later
    pub are : out ≡ now ++ later

  -- a packet in front, whose answer to a call is `step`
  split_more : (run : Run) (e : Event P) (p : P) (es rest : List (Event P)) (out : List O)
      (step : K → Fed E Run O → (Run → Went E Run O) → Went E Run O) →
      ((k : K) → feed_all codec k run (e ∷ es) ≡ step k (join codec k run p) (λ (r : Run). feed_all codec k r es)) →
      ((k : K) (next : Run) (now : List O) (go : Run → Went E Run O) → step k (fed next now) go ≡ behind now (go next)) →
      lost_in (e ∷ es) ≡ lost_in es → got_in (e ∷ es) ≡ 1 + got_in es →
      (y : YieldsThen run p (λ next later. Yields next (es ++ rest) later) out) → Split y.0 es rest y.2 → Split run (e ∷ es) rest out
  split_more run e p es rest out step does steps lose gain y s =
      record {
        next = s.next;
        now = y.1 ++ s.now;
        later = s.later;
        feeds =
            λ k h. does k
            ∙ ap (λ (f : Fed E Run O). step k f (λ (r : Run). feed_all codec k r es)) (y.3 k h)
            ∙ steps k y.0 y.1 (λ (r : Run). feed_all codec k r es)
            ∙ ap (behind y.1) (s.feeds k h)
            ∙ ap (λ (d : ℕ). went s.next d (y.1 ++ s.now)) (sym lose);
        few =
            subst (λ (c : ℕ). AtMost Ok c (y.1 ++ s.now)) (sym gain)
            (at_most_more Ok (got_in es) y.1 s.now y.6 s.few);
        goes = s.goes;
        are = y.5 ∙ ap (λ (os : List O). y.1 ++ os) s.are ∙ sym (append_assoc y.1 s.now s.later);
      }

  pub split : (run : Run) (es rest : List (Event P)) (out : List O) → Yields run (es ++ rest) out → Split run es rest out
  split run [] rest out y =
      record {
        next = run;
        now = [];
        later = out;
        feeds = λ k h. refl;
        few = record { few = omega arith; each = tt };
        goes = y;
        are = refl;
      }
  split run (lost ∷ es) rest out y =
      let s : Split (codec.drop run) es rest out = split (codec.drop run) es rest out y in
      record {
        next = s.next;
        now = s.now;
        later = s.later;
        feeds = λ k h. ap missing (s.feeds k h);
        few = s.few;
        goes = s.goes;
        are = s.are;
      }
  split run (got p ∷ es) rest out y =
      split_more run (got p) p es rest out (λ k f go. got_then f go) (λ k. refl) (λ k next now go. refl) refl refl y
      (split y.0 es rest y.2 y.4)
  split run (held p ∷ es) rest out y =
      split_more run (held p) p es rest out (λ k f go. held_then (codec.drop run) f go) (λ k. refl) (λ k next now go. refl) refl refl y
      (split y.0 es rest y.2 y.4)

  -- all of them at once
  pub split_end : (run : Run) (es : List (Event P)) (out : List O) → Yields run es out →
      (next : Run) × ((k : K) → Enough k → feed_all codec k run es ≡ went next (lost_in es) out) × AtMost Ok (got_in es) out
  split_end run es out y = (
    s.next,
    λ k h. s.feeds k h ∙ ap (went s.next (lost_in es)) (sym whole),
    subst (AtMost Ok (got_in es)) (sym whole) s.few,
  )
    where
      s : Split run es [] out
      s = split run es [] out (subst (λ (l : List (Event P)). Yields run l out) (sym (append-nil es)) y)

      whole : out ≡ s.now
      whole = s.are ∙ ap (λ (os : List O). s.now ++ os) s.goes ∙ append-nil s.now

-- ---- a jump and a packet

-- what a packet does behind d holes
abbrev pub went_behind : {E Run O : Type 0} → ℕ → Fed E Run O → Went E Run O
went_behind d (refusal e) = stopped e
went_behind d (fed run out) = went run d out

module _ {K E P C Run O : Type 0} (codec : Codec K E P C Run O) (again : (run : Run) → codec.drop (codec.drop run) ≡ codec.drop run) (k : K)
    (p : P) where
  alone : (x : Fed E Run O) → got_then x (λ (r : Run). went r 0 []) ≡ went_behind 0 x
  alone (refusal e) = refl
  alone (fed run out) = ap (went run 0) (append-nil out)

  one_more : (d : ℕ) (x : Fed E Run O) → missing (went_behind d x) ≡ went_behind (suc d) x
  one_more d (refusal e) = refl
  one_more d (fed run out) = let e : 1 + d ≡ suc d = omega arith in ap (λ (c : ℕ). went run c out) e

  -- "d > 0 drops the open run"
  pub feed_holes : (run : Run) (d : ℕ) →
      feed_all codec k run (holes d (got p ∷ [])) ≡ went_behind d (join codec k (cond (eqb d 0) run (codec.drop run)) p)
  feed_holes run zero = alone (join codec k run p)
  feed_holes run (suc d) =
      ap missing (feed_holes (codec.drop run) d)
      ∙ one_more d (join codec k (cond (eqb d 0) (codec.drop run) (codec.drop (codec.drop run))) p)
      ∙ ap (λ (r : Run). went_behind (suc d) (join codec k r p)) (drop_both (eqb d 0))
      ∙ sym (ap (λ (b : Bool). went_behind (suc d) (join codec k (cond b run (codec.drop run)) p)) (eqb-suc-zero d))
    where
      drop_both : (b : Bool) → cond b (codec.drop run) (codec.drop (codec.drop run)) ≡ codec.drop run
      drop_both true = refl
      drop_both false = again run

-- "one that gets 6 or 25 while being joined out of the hold counts as missed and drops the run": it is as if it had been lost
pub held_refused : {K E P C Run O : Type 0} (codec : Codec K E P C Run O) (k : K) (run : Run) (p : P) (es : List (Event P)) (e : E) →
    join codec k run p ≡ refusal e → feed_all codec k run (held p ∷ es) ≡ feed_all codec k run (lost ∷ es)
held_refused {E = E} {Run = Run} {O = O} codec k run p es e h =
    ap (λ (f : Fed E Run O). held_then (codec.drop run) f (λ (r : Run). feed_all codec k r es)) h

-- holes alone hand nothing out
pub feed_only_holes : {K E P C Run O : Type 0} (codec : Codec K E P C Run O) (k : K) (run : Run) (d : ℕ) →
    (next : Run) × (feed_all codec k run (holes d []) ≡ went next d [])
feed_only_holes codec k run zero = (run, refl)
feed_only_holes {Run = Run} codec k run (suc d) =
    let later : (next : Run) × (feed_all codec k (codec.drop run) (holes d []) ≡ went next d []) =
    feed_only_holes codec k (codec.drop run) d in
    let e : 1 + d ≡ suc d = omega arith in
    (later.0, ap missing later.1 ∙ ap (λ (c : ℕ). went later.0 c []) e)
