-- What was found says where the window goes, by `found_so`; and it lies within the bytes.
use Rattle.std.proofs.Common.{◌≡◌, ℕ, length, take, sym, refl, ap, ◌∙◌, arith, length-take-le}
use Rattle.stream.specs.declared.framing.Record.{Record}
use Rattle.stream.specs.declared.framing.Record.TheVariants.{Packet, Cut, End}
use Rattle.stream.specs.declared.window.Window.{Window}
use Rattle.stream.specs.Records.{past_record, found_in}
use Rattle.stream.proofs.Steps.{found_so, packet_inside, step_inside}
use Rattle.stream.proofs.records.first_in.Goals as goal

pub overflow_add-at : goal.overflow_add-at
overflow_add-at c =
    let a = c.args in
    let f = c.in-Packet in
    let l : length (take a.w.end a.buf.now) ≡ a.w.end = length-take-le a.w.end a.buf.now c.requires.inside in
    omega (arith, (packet_inside (take a.w.end a.buf.now) a.w.at f.at f.len (sym c.record_at-found.ensures ∙ f.is)).1)

pub returns-in-Packet : goal.returns-in-Packet
returns-in-Packet c =
    let a = c.args in
    let f = c.in-Packet in
    let so : _ ≡ found_in a.buf.now a.w =
    ap (λ (w : Window). record { window = w; found = Packet f.at f.len }) c.from-window.ensures
    ∙ found_so a.buf.now a.w _ (sym c.record_at-found.ensures ∙ f.is) in
    (so, step_inside a.buf.now a.w c.requires _ so)

-- the window stays where no packet was found
stays : (w : Window) (f : Record) → ((at len : ℕ) → f ≡ Packet at len → ⊥) → w ≡ past_record w f
stays w (Packet at len) none = absurd (none at len refl)
stays w Cut none = refl
stays w End none = refl

pub returns-in_default : goal.returns-in_default
returns-in_default c =
    let a = c.args in
    let found = c.record_at-found.result in
    let so : _ ≡ found_in a.buf.now a.w =
    ap (λ (w : Window). record { window = w; found = found }) (stays a.w found c.in_default.not-Packet)
    ∙ found_so a.buf.now a.w found (sym c.record_at-found.ensures) in
    (so, step_inside a.buf.now a.w c.requires _ so)
