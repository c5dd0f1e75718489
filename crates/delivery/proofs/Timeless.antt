-- A joiner that does not look at the time tears units: of the two fragments of one unit, sent at one time, it must hand the unit out; so it does where
-- they are of two times, and then nothing that may be handed out comes from them. Assumes nothing.
use mathlib.Core.Path.{◌≡◌, refl, sym, ap, subst, ◌∙◌}
use mathlib.Core.Bool.{Bool, true, false}
use mathlib.Core.List.{List, [], ◌∷◌, map}
use mathlib.Core.Logic.{◌⊎◌, inl, inr}
use Prim.Native.Nat.{ℕ, ◌≤◌}
use native.Mathlib.Omega.{arith}
use lib.ListN.{length, replicate}
use Rattle.error.specs.Said.{Said, says, refused}
use Rattle.wire.specs.Each.{Each}
use Rattle.wire.specs.Net.{u16_at, u32_at, be16, be32}
use Rattle.wire.specs.Part as wire
use Rattle.header.specs.Read.{fields_at, read_fixed, read_header}
use Rattle.header.specs.Write.{octets_of}
use Rattle.header_write.specs.Fixed.{fixed_for}
use Rattle.packet.specs.Plain.{Stamp, plain_packet}
use Rattle.packet.specs.Read.{PacketReading, read_packet}
use Rattle.packet.specs.Write.{payload_octets, packet_octets}
use Rattle.rfc6184.specs.Sending.{fu_a, fragment, octet}
use Rattle.nal_read.specs.Kind.{shape}
use Rattle.nal.specs.Fed.{prefixed}
use Rattle.sequence.specs.Arrival.{ours}
use Rattle.joiner_step.specs.Run.{Units}
use Rattle.joiner_step.specs.Play.{handed_out}
use Rattle.joiner_feed.specs.Content.{Fragment, Content, whole, start, middle, end}
use Rattle.joiner_feed.specs.H264.{check}
use Rattle.delivery.specs.Show.{largest}
use Rattle.delivery.specs.Play.{Machine, arriving, played}
use Rattle.delivery.specs.AnySender.{Stream, stream_show, StreamPremises, DeliversAny}
use Rattle.delivery.specs.OneMoment.{Among, Bears, Origin, Untorn, OneMoment}
use Rattle.delivery.specs.Wrong.{Timeless}
use Rattle.delivery.proofs.ExampleStream.{part}
use Rattle.delivery.proofs.OneMoment.{started}

abbrev stamps_at : (ℕ → ℕ) → ℕ → Stamp
stamps_at times i = record { marker = false; type = 96; time = times i }

-- the two fragments of one unit; the time of packet i is `times i`
unfoldable two : (ℕ → ℕ) → Stream
two times =
    record {
      sendings = fu_a (record { f = 0; nri = 3; type = 5; first = part (1 ∷ []); middle = []; last = part (2 ∷ []) }) ∷ [];
      marks = λ i. false;
      source = 3;
      first = 7;
      stamps = stamps_at times;
      gather = replicate 2 0;
      outs = λ i. replicate 7 0;
      arrivals = ours 0 ∷ ours 1 ∷ [];
    }

-- ---- at one time something is handed out

largest_out : (avc : Bool) → largest avc (stream_show (two (λ i. 5))).groups ≤ 7
unfolding two fragment octet be16 be32
largest_out false = omega arith
largest_out true = omega arith

two_premises : (avc : Bool) → StreamPremises avc (two (λ i. 5))
unfolding two fragment octet be16 be32
two_premises avc =
    record {
      formed = omega arith;
      ruled = omega arith;
      taken = omega arith;
      short = omega arith;
      domain = omega arith;
      received =
          record {
            few = omega arith;
            gather_room = omega arith;
            out_room = λ i. largest_out avc;
            source = omega arith;
            first = omega arith;
            stamps = λ i. record { type = omega arith; time = omega arith };
            one_time = ((refl, (refl, tt)), tt);
            foreign = tt;
            window = omega arith;
          };
    }

handed : (avc : Bool) (m : Machine) → DeliversAny avc m → length (handed_out (played m (stream_show (two (λ i. 5))))) ≡ 1
unfolding two fragment octet
handed avc m d = ap length (d (two (λ i. 5)) (two_premises avc)).hands_out

-- ---- at two times nothing may be

abbrev came : List (List ℕ)
came = arriving (stream_show (two (λ i. i)))

-- what a packet holds, by its kind, and its time
abbrev kind_in : Said Content → ℕ
kind_in (says (whole units)) = 0
kind_in (says (start f)) = 1
kind_in (says (middle f)) = 2
kind_in (says (end head f)) = 3
kind_in (refused r) = 4

abbrev kind_of : List ℕ → Said PacketReading → ℕ
kind_of p (says r) = kind_in (check (wire.part p r.payload.place r.payload.len))
kind_of p (refused r) = 4

abbrev time_in : Said PacketReading → ℕ
time_in (says r) = r.fields.time
time_in (refused r) = 0

-- the first is a start at the time 0, the second an end at the time 1
abbrev Told : (kind time : ℕ) → Type 0
Told kind time = ((kind ≡ 1) × (time ≡ 0)) ⊎ ((kind ≡ 3) × (time ≡ 1))

these : (p : List ℕ) → Among came p → Told (kind_of p (read_packet p)) (time_in (read_packet p))
unfolding two fragment octet check shape read_packet read_header read_fixed fields_at u16_at u32_at plain_packet packet_octets payload_octets octets_of fixed_for be16 be32
these p (inl e) = inl (ap (λ (q : List ℕ). kind_of q (read_packet q)) e, ap (λ (q : List ℕ). time_in (read_packet q)) e)
these p (inr (inl e)) = inr (ap (λ (q : List ℕ). kind_of q (read_packet q)) e, ap (λ (q : List ℕ). time_in (read_packet q)) e)
these p (inr (inr e)) = absurd e

-- so is a packet that bears this at that time
told : (number time : ℕ) (x : Content) → Bears came 3 number time x → Told (kind_in (says x)) time
told number time x b =
    subst (λ (k : ℕ). Told k time) (ap (kind_of b.packet) b.read ∙ ap kind_in b.holds)
    (subst (Told (kind_of b.packet (read_packet b.packet))) (ap time_in b.read ∙ b.of_time) (these b.packet b.there))

no_origin : (units : Units) → Origin came 3 units → ⊥
no_origin units (inl u) = go (told u.number u.time (whole units) u.bears)
  where
    go : Told 0 u.time → ⊥
    go (inl w) = omega (arith, w.0)
    go (inr w) = omega (arith, w.0)
no_origin units (inr u) =
    go (told u.number u.time _ u.ends) (told first.0 u.time (start first.1) first.2)
  where
    first : (number : ℕ) × (f : Fragment) × Bears came 3 number u.time (start f)
    first = started came 3 u.time u.before u.others u.begun

    go : Told 3 u.time → Told 1 u.time → ⊥
    go (inl w) v = omega (arith, w.0)
    go (inr w) (inl v) = omega (arith, w.1, v.1)
    go (inr w) (inr v) = omega (arith, v.0)

-- ---- and both at once cannot be

pub no_timeless : (avc : Bool) (m : Machine) → Timeless m → DeliversAny avc m → OneMoment avc m → ⊥
unfolding two
no_timeless avc m same d one = go u.groups (sym u.hands_out ∙ same (stream_show (two (λ i. 5))) (stamps_at (λ i. i))) u.origins
  where
    u : Untorn avc m (stream_show (two (λ i. i))) came
    u = one (stream_show (two (λ i. i))) came

    go : (gs : List Units) → map (prefixed avc) gs ≡ handed_out (played m (stream_show (two (λ i. 5)))) → Each (Origin came 3) gs → ⊥
    go [] e w = let n : ◌≡◌ {A = ℕ} 0 1 = ap length e ∙ handed avc m d in omega arith
    go (g ∷ gs) e w = no_origin g w.0
