-- The tests are those of `join_step`; a packet that was read goes on by its source and number.
use mathlib.Core.Path.{◌≡◌, sym, ap, subst⁻¹, ◌∙◌}
use mathlib.Core.List.{List}
use Prim.Native.Nat.{ℕ, ◌+◌, ◌-◌, ◌≤◌}
use native.Mathlib.Omega.{arith}
use lib.ListN.{length, take, drop, length-drop}
use lib.Seq.{length-take-le}
use Rattle.std.proofs.lemmas.Result.{err_from_is_err_and}
use Rattle.error.specs.Said.{Said, says}
use Rattle.packet.specs.Read.{read_packet}
use Rattle.joiner_read.specs.declared.Arrival.{Arrival}
use Rattle.joiner_read.specs.Arrive.{Arrived, arrival_of}
use Rattle.joiner_read.proofs.Arriving.{arrived_inside, arrived_short}
use Rattle.joiner_step.specs.Choice as Choice
use Rattle.joiner_step.specs.Step.{by_source, by_reading}
use Rattle.joiner_step.proofs.Stages.{step_outside, step_reads}
use Rattle.joiner.specs.Join.{kept_of, as_step, Known, known, arrived_in, choice_of, join_step}
use Rattle.joiner.proofs.Joining as joining
use Rattle.joiner.proofs.Joining.{is_live, not_live}
use Rattle.joiner.proofs.Joiner.moved.Goals as goal
use Rattle.joiner.proofs.Joiner.moved.Goals.{In_ok-arrival, Else-gather-self}

-- ---- 22, 8
pub returns-in_err-live : goal.returns-in_err-live
returns-in_err-live c =
    let p = err_from_is_err_and c.from_residual.result c.from_residual.ensures.1 in
    rw (p.1, p.2) (sym ((not_live c.args.self c.in_err-live.ensures).0 c.args.packet.now c.args.gather.now c.args.out.now))

pub returns-then-gather-self : goal.returns-then-gather-self
unfolding join_step
returns-then-gather-self c =
    let j = c.args.self in
    let live = is_live j c.in_ok-live.ensures in
    sym (ap as_step (step_outside (choice_of j) (kept_of j) c.args.packet.now c.args.gather.now c.args.out.now live.0 (λ o. omega (arith, o.lies, c.if-gather-self.true))))

-- ---- a record within the domain
reads : (c : Else-gather-self) (x : Said (Choice.Arrived Known)) → arrived_in c.args.packet.now (read_packet c.args.packet.now) ≡ x →
    join_step c.args.self c.args.packet.now c.args.gather.now c.args.out.now
    ≡ as_step (by_reading (choice_of c.args.self) (kept_of c.args.self) c.args.gather.now c.args.out.now x)
unfolding join_step
reads c x g =
    let j = c.args.self in
    let live = is_live j c.in_ok-live.ensures in
    ap as_step
    (step_reads (choice_of j) (kept_of j) c.args.packet.now c.args.gather.now c.args.out.now
    (record { not_closed = live.0; domain = live.1; lies = c.if-gather-self.false })
    ∙ ap (by_reading (choice_of j) (kept_of j) c.args.gather.now c.args.out.now) g)

pub returns-in_err-arrival : goal.returns-in_err-arrival
returns-in_err-arrival c =
    let p = err_from_is_err_and c.from_residual-in_err-arrival.result c.from_residual-in_err-arrival.ensures.1 in
    rw (p.1, p.2)
    (sym (reads (goal.at.returns-in_err-arrival c).Else-gather-self _ (joining.came_not c.args.packet.now _ (sym c.in_err-arrival.ensures))))

-- ---- a packet that arrived

-- what is told of it
abbrev told : Arrival → Arrived
told p = record { source = p.source; number = p.number; time = p.time; place = p.at; len = p.len }

came : (c : In_ok-arrival) → arrival_of (read_packet c.args.packet.now) ≡ says (told c.in_ok-arrival.arrival)
came c = sym c.in_ok-arrival.ensures

pub slice_bounds-payload-end : goal.slice_bounds-payload-end
slice_bounds-payload-end c = arrived_inside c.args.packet.now _ (came (goal.at.slice_bounds-payload-end c).In_ok-arrival)

pub overflow_add-payload : goal.overflow_add-payload
overflow_add-payload c =
    let e = came (goal.at.overflow_add-payload c).In_ok-arrival in
    omega (arith, arrived_inside c.args.packet.now _ e, arrived_short c.args.packet.now _ e)

-- the payload, as the code lends it on
abbrev lent : List ℕ → Arrived → List ℕ
lent bytes a = take (a.place + a.len - a.place) (drop a.place bytes)

payload : (bytes : List ℕ) (a : Arrived) → lent bytes a ≡ take a.len (drop a.place bytes)
payload bytes a =
    let e : a.place + a.len - a.place ≡ a.len = omega arith in
    ap (λ (k : ℕ). take k (drop a.place bytes)) e

length_payload : (bytes : List ℕ) (a : Arrived) → a.place + a.len ≤ length bytes → length (lent bytes a) ≡ a.len
length_payload bytes a inside =
    ap length (payload bytes a)
    ∙ length-take-le a.len (drop a.place bytes) (rw (length-drop a.place bytes) (omega arith))

pub arrived-requires : goal.arrived-requires
arrived-requires c =
    let bytes = c.args.packet.now in
    let a = told c.in_ok-arrival.arrival in
    let e = came (goal.at.arrived-requires c).In_ok-arrival in
    let inside = arrived_inside bytes a e in (
      subst⁻¹ (λ (k : ℕ). k ≤ 65535) (length_payload bytes a inside) (omega (arith, inside, arrived_short bytes a e)),
      c.if-gather-self.false,
      (is_live c.args.self c.in_ok-live.ensures).0,
    )

pub returns : goal.returns
returns c =
    let j = c.args.self in
    let bytes = c.args.packet.now in
    let a = told c.in_ok-arrival.arrival in
    c.arrived.ensures
    ∙ ap (λ (l : List ℕ). as_step (by_source (choice_of j) (kept_of j) (record { source = a.source; number = a.number; known = known a.time l }) c.args.gather.now c.args.out.now)) (payload bytes a)
    ∙ sym (reads (goal.at.returns c).Else-gather-self _ (joining.came bytes a (came (goal.at.returns c).In_ok-arrival)))
