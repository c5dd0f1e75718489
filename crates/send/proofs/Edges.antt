-- The laws of `look`, and what holds before each turn of the search for an edge: some fuel is enough for what is left, and leads
-- to the answer. Assumes nothing.
use Rattle.std.proofs.Common.{◌≡◌, ℕ, ◌+◌, ◌-◌, ◌<◌, ◌≤◌, Bool, true, false, cond, ◌&&◌, ◌||◌, List, length, get_or, Option, None, Some, sym, refl, ap, ◌∙◌, ap₂, arith, le-ltb, lt-ltb}
use Rattle.wire.specs.Turns.{more, done, run}
use Rattle.wire.proofs.Turns.{run_more, run_done}
use Rattle.annexb.specs.Search.{next_code}
use Rattle.annexb.proofs.Pieces.{piece_at}
use Rattle.send.specs.Access.{is_slice, begins, Looked, by_code, look, edge_of}

abbrev pub looked : ℕ → Bool → Looked
looked start coded = record { start = start; coded = coded }

module _ (s : List ℕ) (start : ℕ) (coded : Bool) where
  look_none : next_code s start ≡ None → look s (looked start coded) ≡ done None
  unfolding look
  look_none e = ap (by_code s coded) e

  module _ (at len : ℕ) (e : next_code s start ≡ Some (record { at = at; len = len })) where
    look_short : length s < at + len + 2 → look s (looked start coded) ≡ done None
    unfolding look
    look_short h = ap (by_code s coded) e ∙ rw (lt-ltb (length s) (at + len + 2) h)

    look_long : at + len + 2 ≤ length s → (b : Bool) → coded && begins (get_or s (at + len) 0) (get_or s (at + len + 1) 0) ≡ b →
        look s (looked start coded) ≡ cond b (done (Some at)) (more (looked (at + len) (coded || is_slice (get_or s (at + len) 0))))
    unfolding look
    look_long h b q =
        ap (by_code s coded) e
        ∙ ap (λ (t : Bool). cond t (done None) (cond (coded && begins (get_or s (at + len) 0) (get_or s (at + len + 1) 0)) (done (Some at)) (more (looked (at + len) (coded || is_slice (get_or s (at + len) 0)))))) (le-ltb (length s) (at + len + 2) h)
        ∙ ap (λ (t : Bool). cond t (done (Some at)) (more (looked (at + len) (coded || is_slice (get_or s (at + len) 0))))) q

-- what leads from here to the answer
pub record Going (s : List ℕ) (start : ℕ) (coded : Bool) : Type 0 where
  pub fuel : ℕ
  pub within : start ≤ length s
  pub enough : length s < start + fuel
  pub same : run (look s) None fuel (looked start coded) ≡ edge_of s

pub going_first : (s : List ℕ) → Going s 0 false
unfolding edge_of
going_first s = record { fuel = length s + 1; within = omega arith; enough = omega arith; same = refl }

module _ (s : List ℕ) (start : ℕ) (coded : Bool) (g : Going s start coded) where
  ends : (r : Option ℕ) → look s (looked start coded) ≡ done r → r ≡ edge_of s
  ends r e = sym (run_done (look s) None g.fuel (looked start coded) r (omega (arith, g.enough, g.within)) e) ∙ g.same

  pub ends_none : next_code s start ≡ None → None ≡ edge_of s
  ends_none e = ends None (look_none s start coded e)

  module _ (at len : ℕ) (e : next_code s start ≡ Some (record { at = at; len = len })) where
    -- the unit lies further on, and within the bytes
    pub onward : (start < at + len) × (at + len ≤ length s)
    onward =
        let p = piece_at s start at len g.within e in
        (omega (arith, p.from, p.onward.0), p.onward.1)

    pub ends_short : length s < at + len + 2 → None ≡ edge_of s
    ends_short h = ends None (look_short s start coded at len e h)

    pub ends_edge : at + len + 2 ≤ length s → coded ≡ true → begins (get_or s (at + len) 0) (get_or s (at + len + 1) 0) ≡ true → Some at ≡ edge_of s
    ends_edge h c b = ends (Some at) (look_long s start coded at len e h true (ap₂ ◌&&◌ c b))

    goes_on : at + len + 2 ≤ length s → coded && begins (get_or s (at + len) 0) (get_or s (at + len + 1) 0) ≡ false →
        (now : Bool) → coded || is_slice (get_or s (at + len) 0) ≡ now → Going s (at + len) now
    goes_on h b now q =
        record {
          fuel = g.fuel - 1;
          within = onward.1;
          enough = omega (arith, g.enough, onward.0, g.within);
          same =
              ap (λ (c : Bool). run (look s) None (g.fuel - 1) (looked (at + len) c)) (sym q)
              ∙ sym (run_more (look s) None g.fuel (looked start coded) _ (omega (arith, g.enough, g.within)) (look_long s start coded at len e h false b))
              ∙ g.same;
        }

    -- behind a slice, a unit that begins no access unit
    pub goes_on_behind : at + len + 2 ≤ length s → coded ≡ true → begins (get_or s (at + len) 0) (get_or s (at + len + 1) 0) ≡ false → Going s (at + len) coded
    goes_on_behind h c b =
        goes_on h (ap₂ ◌&&◌ c b) coded (ap (λ (x : Bool). x || is_slice (get_or s (at + len) 0)) c ∙ sym c)

    -- before the first slice
    pub goes_on_before : at + len + 2 ≤ length s → coded ≡ false → (now : Bool) → now ≡ is_slice (get_or s (at + len) 0) → Going s (at + len) now
    goes_on_before h c now q =
        goes_on h (ap (λ (x : Bool). x && begins (get_or s (at + len) 0) (get_or s (at + len + 1) 0)) c) now
        (ap (λ (x : Bool). x || is_slice (get_or s (at + len) 0)) c ∙ sym q)
