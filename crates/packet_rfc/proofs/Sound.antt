-- Whatever is accepted is a well-formed packet, has a padding count of 0, or strays, and is told in one way alone: the header conforms or strays by the
-- header's SOUND, and the octets behind it were measured. Assumes nothing.
use Rattle.std.specs.Prelude.{Ok}
use mathlib.Core.Path.{◌≡◌, refl, sym, ap, ◌∙◌, subst}
use mathlib.Core.Bool.{Bool}
use mathlib.Core.List.{List, [], ◌∷◌, ◌++◌, append-nil}
use mathlib.Core.Logic.{◌⊎◌, inl, inr}
use mathlib.Core.Option.{Option, none, some}
use Prim.Native.Nat.{ℕ, ◌+◌}
use native.Mathlib.Omega.{arith}
use lib.ListN.{length, drop, length-append}
use lib.Seq.{drop_at}
use Rattle.error.specs.Said.{Said, says, refused}
use Rattle.header.specs.Read.{Reading, read_header}
use Rattle.rfc3550.specs.Rfc3550.{Octets, present}
use Rattle.rfc3550.specs.Rfc8285.{Plan, Lawful, octets}
use Rattle.rfc3550.specs.Packet.{Padding, Packet, LawfulEnd, end_octets, packet_octets, IsRtpPacket, last_octet}
use Rattle.rfc3550.proofs.Packets.{unambiguous_packets, length_padded, count_last, padded_counted}
use Rattle.header_rfc.specs.Says.{fields_with, fields_said, Within, Plain, Fits}
use Rattle.header_rfc.specs.Says as header
use Rattle.header_rfc.specs.Accepted.{payload_left}
use Rattle.header_rfc.specs.Accepted as header-told
use Rattle.header_rfc.proofs.Sound as header_read
use Rattle.packet.specs.declared.Unmarshalled.{Unmarshalled}
use Rattle.packet.specs.Read.{Payload, PacketReading, read_packet}
use Rattle.packet.specs.Said.{said_read, Heard, heard, reading_heard}
use Rattle.packet_rfc.specs.Says.{header_of, Measured, all, without_padding, uncounted, Conforming, ZeroCount, Straying, Told, Sound, CodeTold}
use Rattle.packet_rfc.proofs.Behind.{reading_at, Accepted, accepted, read_all, read_padded, read_uncounted}
use Rattle.packet_rfc.proofs.Deviations.{zero_no_packet}

-- a well-formed header, and the octets behind it as they were measured
module _ (s : List ℕ) (r : PacketReading) (c : header.Conforming s (header_of r)) where
  abbrev h : Plan
  h = c.plan

  bit : r.fields.padding ≡ h.fixed.padding
  unfolding fields_with
  bit = ap (λ (t : Reading). t.fields.padding) c.said

  rest : drop r.payload.place s ≡ c.payload
  rest =
      ap (λ (t : Reading). drop t.place s) c.said
      ∙ ap (drop (length (octets h))) (sym c.same)
      ∙ drop_at (octets h) c.payload (length (octets h)) refl

  said : (n : ℕ) → r.payload.len ≡ n → r ≡ reading_at (fields_said h) (length (octets h)) n
  said n e i = record { fields = (c.said i).fields; payload = record { place = (c.said i).place; len = e i } }

  conforms : Measured r.fields.padding c.payload r.payload.len → Conforming s r ⊎ ZeroCount s r
  unfolding packet_octets
  conforms (all off e) =
      inl
      (record {
        plan = record { header = h; payload = c.payload; padding = none };
        lawful = record { header = c.lawful; bit = sym bit ∙ off; padding = tt };
        plain = c.plain;
        same = ap (λ (t : List ℕ). octets h ++ t) (append-nil c.payload) ∙ c.same;
        said = said (length c.payload) e;
      })
  conforms (without_padding on p e) =
      inl
      (record {
        plan = record { header = h; payload = p.payload; padding = some p.padding };
        lawful = record { header = c.lawful; bit = sym bit ∙ on; padding = p.lawful };
        plain = c.plain;
        same = ap (λ (t : List ℕ). octets h ++ t) p.same ∙ c.same;
        said = said (length p.payload) e;
      })
  conforms (uncounted on u e) =
      inr
      (record {
        plan = h;
        lawful = c.lawful;
        plain = c.plain;
        bit = sym bit ∙ on;
        before = u.before;
        same = ap (λ (t : List ℕ). octets h ++ t) u.same ∙ c.same;
        said = said (length u.before + 1) (e ∙ sym (ap length u.same) ∙ length-append u.before (0 ∷ []));
      })

pub sound : Sound read_packet
sound s r o e = go (header_read.sound s (header_of r) o a.header)
  where
    a : Accepted s r
    a = accepted s r o e

    told_by : Conforming s r ⊎ ZeroCount s r → Told s r
    told_by (inl c) = inl c
    told_by (inr z) = inr (inl z)

    measured : (t : List ℕ) → drop r.payload.place s ≡ t → Measured r.fields.padding t r.payload.len
    measured t q = subst (λ (u : List ℕ). Measured r.fields.padding u r.payload.len) q a.payload

    go : header-told.Told s (header_of r) → Told s r
    go (inl c) = told_by (conforms s r c (measured c.payload (rest s r c)))
    go (inr d) = inr (inr (record { header = d; payload = measured (payload_left d) (header_read.left_told s (header_of r) d) }))

-- ---- the code

-- whatever `unmarshal` accepts under its contract
pub code_sound : (u : Unmarshalled) (s : List ℕ) → Octets s → heard u ≡ reading_heard (read_packet s) → (place len : ℕ) → u.read ≡ Ok (record { at = place; len = len }) →
    CodeTold s u place len
code_sound u s o contract place len answer = go (read_packet s) refl
  where
    at : Payload
    at = record { place = place; len = len }

    heard_as : (a : Said PacketReading) → read_packet s ≡ a → says at ≡ (reading_heard a).answer
    heard_as a e = sym (ap said_read answer) ∙ ap (λ (x : Heard). x.answer) (contract ∙ ap reading_heard e)

    go : (a : Said PacketReading) → read_packet s ≡ a → CodeTold s u place len
    go (says r) e =
        let p : says at ≡ says r.payload = heard_as (says r) e in
        let same : r.payload ≡ at = cc in
        record {
          reading = r;
          told = sound s r o e;
          payload = same;
          header = ap (λ (x : Heard). x.header) (contract ∙ ap reading_heard e);
        }
    go (refused w) e =
        let p : says at ≡ refused w = heard_as (refused w) e in
        absurd (let z : ◌≡◌ {A = ℕ} 0 1 = cc in omega arith)

-- ---- what is told is a header that is told, and octets behind it that are measured

record Parts (s : List ℕ) (r : PacketReading) : Type 0 where
  front : header-told.Told s (header_of r)
  payload : Measured r.fields.padding (drop r.payload.place s) r.payload.len

-- a lawful header in a form that is read as such, before the octets `body`
module _ (s : List ℕ) (r : PacketReading) (h : Plan) (l : Lawful h) (plain : Plain h.content) (body : List ℕ) (same : octets h ++ body ≡ s) (n : ℕ)
    (said : r ≡ reading_at (fields_said h) (length (octets h)) n) where
  plan_front : header.Conforming s (header_of r)
  plan_front = record { plan = h; lawful = l; plain = plain; payload = body; same = same; said = ap header_of said }

  of_plan : Measured h.fixed.padding body n → Parts s r
  unfolding fields_with
  of_plan m =
      record {
        front = inl plan_front;
        payload = subst (λ (t : PacketReading). Measured t.fields.padding (drop t.payload.place s) t.payload.len) (sym said)
            (subst (λ (t : List ℕ). Measured h.fixed.padding t n)
            (sym (ap (drop (length (octets h))) (sym same) ∙ drop_at (octets h) body (length (octets h)) refl)) m);
      }

-- the header of a well-formed packet, and that before a padding count of 0
well_formed_front : (s : List ℕ) (r : PacketReading) → Conforming s r → header.Conforming s (header_of r)
unfolding packet_octets
well_formed_front s r c =
    plan_front s r c.plan.header c.lawful.header c.plain (c.plan.payload ++ end_octets c.plan.padding) c.same (length c.plan.payload) c.said

zero_front : (s : List ℕ) (r : PacketReading) → ZeroCount s r → header.Conforming s (header_of r)
zero_front s r z = plan_front s r z.plan z.lawful z.plain (z.before ++ (0 ∷ [])) z.same (length z.before + 1) z.said

end_measured : (b : Bool) (payload : List ℕ) (e : Option Padding) → LawfulEnd e → b ≡ present e → Measured b (payload ++ end_octets e) (length payload)
end_measured b payload none l q = all q (sym (ap length (append-nil payload)))
end_measured b payload (some p) l q = without_padding q (record { payload = payload; padding = p; lawful = l; same = refl }) refl

parts : (s : List ℕ) (r : PacketReading) → Told s r → Parts s r
unfolding packet_octets
parts s r (inl c) =
    of_plan s r c.plan.header c.lawful.header c.plain (c.plan.payload ++ end_octets c.plan.padding) c.same (length c.plan.payload) c.said
    (end_measured c.plan.header.fixed.padding c.plan.payload c.plan.padding c.lawful.padding c.lawful.bit)
parts s r (inr (inl z)) =
    of_plan s r z.plan z.lawful z.plain (z.before ++ (0 ∷ [])) z.same (length z.before + 1) z.said
    (uncounted z.bit (record { before = z.before; same = refl }) (sym (length-append z.before (0 ∷ []))))
parts s r (inr (inr y)) =
    record {
      front = inr y.header;
      payload = subst (λ (t : List ℕ). Measured r.fields.padding t r.payload.len) (sym (header_read.left_told s (header_of r) y.header)) y.payload;
    }

-- the octets tell how many of them are payload
measured_once : (b : Bool) (rest : List ℕ) (m n : ℕ) → Measured b rest m → Measured b rest n → m ≡ n
measured_once b rest m n (all off e) (all off' d) = e ∙ sym d
measured_once b rest m n (all off e) (without_padding on p d) = absurd (let z : ◌≡◌ {A = ℕ} 0 1 = cc in omega arith)
measured_once b rest m n (all off e) (uncounted on u d) = absurd (let z : ◌≡◌ {A = ℕ} 0 1 = cc in omega arith)
measured_once b rest m n (without_padding on p e) (all off d) = absurd (let z : ◌≡◌ {A = ℕ} 0 1 = cc in omega arith)
measured_once b rest m n (without_padding on p e) (without_padding on' q d) =
    omega
    (arith, sym (ap length p.same) ∙ length_padded p.payload p.padding, sym (ap length q.same) ∙ length_padded q.payload q.padding, sym (ap last_octet p.same) ∙ count_last p.payload p.padding, sym (ap last_octet q.same) ∙ count_last q.payload q.padding)
measured_once b rest m n (without_padding on p e) (uncounted on' u d) = absurd (padded_counted rest p u)
measured_once b rest m n (uncounted on u e) (all off d) = absurd (let z : ◌≡◌ {A = ℕ} 0 1 = cc in omega arith)
measured_once b rest m n (uncounted on u e) (without_padding on' p d) = absurd (padded_counted rest p u)
measured_once b rest m n (uncounted on u e) (uncounted on' v d) = e ∙ sym d

-- so the octets alone determine what is told ..
pub told_once : (s : List ℕ) (r t : PacketReading) → Told s r → Told s t → r ≡ t
told_once s r t a b =
    let x : Parts s r = parts s r a in
    let y : Parts s t = parts s t b in
    let fields : header_of r ≡ header_of t = header_read.told_once s (header_of r) (header_of t) x.front y.front in
    let len : r.payload.len ≡ t.payload.len =
    measured_once t.fields.padding (drop t.payload.place s) r.payload.len t.payload.len
    (subst (λ (h : Reading). Measured h.fields.padding (drop h.place s) r.payload.len) fields x.payload) y.payload in
    λ i. record { fields = (fields i).fields; payload = record { place = (fields i).place; len = len i } }

-- .. and within the limits it is what is read ..
pub exact : (s : List ℕ) (r : PacketReading) → Fits s → Within r.fields.elements → Told s r → read_packet s ≡ says r
exact s r fits w a = go x.payload
  where
    x : Parts s r
    x = parts s r a

    rest : List ℕ
    rest = drop r.payload.place s

    read : read_header s ≡ says (header_of r)
    read = header_read.exact s (header_of r) fits w x.front

    said : (n : ℕ) → r.payload.len ≡ n → read_packet s ≡ says (reading_at r.fields r.payload.place n) → read_packet s ≡ says r
    said n e q = q ∙ ap (λ (k : ℕ). says (reading_at r.fields r.payload.place k)) (sym e)

    go : Measured r.fields.padding rest r.payload.len → read_packet s ≡ says r
    go (all off e) = said (length rest) e (read_all s rest r.payload.place refl r.fields read off)
    go (without_padding on p e) = said (length p.payload) e (read_padded s rest r.payload.place refl r.fields read on p.payload p.padding p.same)
    go (uncounted on u e) = said (length rest) e (read_uncounted s rest r.payload.place refl r.fields read on u.before u.same)

-- .. where whatever is read stands
pub limits : (s : List ℕ) (r : PacketReading) → Octets s → read_packet s ≡ says r → Fits s × Within r.fields.elements
limits s r o e = header_read.limits s (header_of r) o (accepted s r o e).header

-- ---- the three never meet

-- what is well-formed neither has a padding count of 0 nor strays ..
pub well_formed_alone : (s : List ℕ) (r t : PacketReading) → Conforming s r → ZeroCount s t ⊎ Straying s t → ⊥
well_formed_alone s r t c (inl z) = zero_no_packet z.plan z.before z.lawful z.bit c.plan c.lawful (c.same ∙ sym z.same)
well_formed_alone s r t c (inr y) = header_read.well_formed_alone s (header_of r) (header_of t) (well_formed_front s r c) y.header

-- .. and where the padding count is 0 the header does not
pub zero_alone : (s : List ℕ) (r t : PacketReading) → ZeroCount s r → Straying s t → ⊥
zero_alone s r t z y = header_read.well_formed_alone s (header_of r) (header_of t) (zero_front s r z) y.header

-- ---- version 2

-- a well-formed packet is one of the RFC exactly where what was read says version 2
pub of_version_2 : (s : List ℕ) (r : PacketReading) → Conforming s r → (r.fields.version ≡ 2 → IsRtpPacket s) × (IsRtpPacket s → r.fields.version ≡ 2)
unfolding fields_with
of_version_2 s r c = (
  λ v. record { plan = c.plan; lawful = c.lawful; version = sym told ∙ v; same = c.same },
  λ p. told ∙ ap (λ (q : Packet). q.header.fixed.version) (unambiguous_packets c.plan p.plan c.lawful p.lawful (c.same ∙ sym p.same)) ∙ p.version,
)
  where
    told : r.fields.version ≡ c.plan.header.fixed.version
    told = ap (λ (t : PacketReading). t.fields.version) c.said
