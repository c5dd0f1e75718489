-- What is written reads back: the padding that the writer chooses is lawful, so that the written octets are those of a lawful packet, and the
-- payload is found behind the header as the header's round trip has it. Assumes nothing.
use mathlib.Core.Path.{◌≡◌, refl, sym, ap, ap₂, ◌∙◌, subst}
use mathlib.Core.Bool.{Bool, true, false}
use mathlib.Core.List.{List, [], ◌∷◌, ◌++◌}
use mathlib.Core.Option.{Option, none, some}
use Prim.Native.Nat.{ℕ, ◌-◌, ◌%◌}
use native.Mathlib.Omega.{arith}
use lib.ListN.{length, replicate, length-replicate}
use Rattle.error.specs.Said.{Said, says}
use Rattle.wire.specs.Part.{part}
use Rattle.header.specs.Fields.{Fields}
use Rattle.header.specs.Write.{octets_of}
use Rattle.rfc3550.specs.Rfc3550.{present}
use Rattle.rfc3550.specs.Rfc8285.{octets}
use Rattle.rfc3550.specs.Packet.{Padding, count_in, padding_octets, Packet, LawfulPacket, LawfulEnd, end_octets, packet_octets}
use Rattle.header_rfc.specs.Says.{fields_said, fields_with, Plain, AppBits, Fits}
use Rattle.header_rfc.specs.RoundTrip.{InRange, ReadsBack, read_back, Trailing}
use Rattle.header_rfc.specs.RoundTrip as header
use Rattle.header_rfc.proofs.RoundTrip.{Ways, TakenElements}
use Rattle.header_rfc.proofs.RoundTrip as header-written
use Rattle.header_rfc.proofs.Rewritten as header-rewritten
use Rattle.header_rfc.proofs.Writers.{octets_back}
use Rattle.packet.specs.Read.{read_packet}
use Rattle.packet.specs.Write as written
use Rattle.packet.proofs.Writing.{padding_some}
use Rattle.packet_rfc.specs.RoundTrip.{Filling, Chosen, FillingEnd, WrittenAs, WrittenAndRead}
use Rattle.packet_rfc.proofs.Complete.{read_end, part_end}

-- ---- the padding that is chosen

-- behind a payload of n bytes
abbrev chosen : ℕ → Padding
chosen n = record { before = replicate (3 - n % 4) 0 }

count_chosen : (n : ℕ) → count_in (chosen n) ≡ 4 - n % 4
count_chosen n = omega (arith, length-replicate {A = ℕ} (3 - n % 4) 0)

chosen_octets : (n : ℕ) → written.padding_octets (4 - n % 4) ≡ padding_octets (chosen n)
chosen_octets n =
    let zeros : 4 - n % 4 - 1 ≡ 3 - n % 4 = omega arith in
    padding_some (4 - n % 4) (omega arith)
    ∙ ap₂ (λ (k count : ℕ). replicate k 0 ++ (count ∷ [])) zeros (sym (count_chosen n))

-- "zeros and a count up to a multiple of 4 of the payload; an aligned payload gets 4" is lawful padding
pub padding_chosen : (n : ℕ) → Chosen n (written.padding_octets (written.padding_length true n))
padding_chosen n =
    let count : count_in (chosen n) ≡ 4 - n % 4 = count_chosen n in
    record {
      padding = chosen n;
      lawful = omega arith;
      same = chosen_octets n;
      filling = record {
        zeros = ap (λ (k : ℕ). replicate k 0) (sym (length-replicate {A = ℕ} (3 - n % 4) 0));
        most = omega arith;
        multiple = omega arith;
      };
      aligned = λ e. omega arith;
    }

abbrev chosen_end : Bool → ℕ → Option Padding
chosen_end false n = none
chosen_end true n = some (chosen n)

chosen_present : (b : Bool) (n : ℕ) → b ≡ present (chosen_end b n)
chosen_present false n = refl
chosen_present true n = refl

chosen_lawful : (b : Bool) (n : ℕ) → LawfulEnd (chosen_end b n)
chosen_lawful false n = tt
chosen_lawful true n = omega (arith, count_chosen n)

end_octets_lem : (b : Bool) (n : ℕ) → written.padding_octets (written.padding_length b n) ≡ end_octets (chosen_end b n)
end_octets_lem false n = refl
end_octets_lem true n = chosen_octets n

-- ---- what is written

said_same : {A : Type 0} {a b : A} → says a ≡ says b → a ≡ b
said_same e = cc

module _ (f : Fields) (payload : List ℕ) where
  abbrev end : Option Padding
  end = chosen_end f.padding (length payload)

  same_octets : written.packet_octets f payload ≡ octets_of f ++ (payload ++ end_octets end)
  unfolding written.packet_octets written.payload_octets
  same_octets = ap (λ (s : List ℕ). octets_of f ++ (payload ++ s)) (end_octets_lem f.padding (length payload))

  -- the written octets are those of a lawful packet that says the record
  pub writer : InRange f → ReadsBack f → (AppBits f.profile → ⊥) → (answer : Said (List ℕ)) → answer ≡ says (written.packet_octets f payload) →
      WrittenAs f payload answer
  unfolding packet_octets fields_with
  writer w r bits answer e =
      let h : header.WrittenAs f (says (octets_of f)) = header-written.writer f w r bits (says (octets_of f)) refl in
      let front : octets_of f ≡ octets h.plan = said_same h.same in
      record {
        plan = record { header = h.plan; payload = payload; padding = end };
        lawful = record {
          header = h.lawful;
          bit = ap (λ (g : Fields). g.padding) h.said ∙ chosen_present f.padding (length payload);
          padding = chosen_lawful f.padding (length payload);
        };
        same = e ∙ ap says (same_octets ∙ ap (λ (s : List ℕ). s ++ (payload ++ end_octets end)) front);
        said = h.said;
        payload_said = refl;
      }

  -- where these octets were written, they read back
  pub back : InRange f → Ways TakenElements f → (answer : Said (List ℕ)) → answer ≡ says (written.packet_octets f payload) → WrittenAndRead f payload answer
  back w s answer e =
      record {
        octets = written.packet_octets f payload;
        written = e;
        back = λ fits.
            ap read_packet same_octets
            ∙ read_end (octets_of f) payload end (read_back f) (chosen_present f.padding (length payload))
            (octets_back f w s (payload ++ end_octets end) (subst Fits same_octets fits));
        bytes = ap (λ (t : List ℕ). part t (length (octets_of f)) (length payload)) same_octets ∙ part_end (octets_of f) payload (end_octets end);
      }

-- ---- the other way round

-- zeros and a count up to a multiple of 4 are the padding that is chosen
filling_told : (n : ℕ) (p : Padding) → Filling n p → p ≡ chosen n
filling_told n p f =
    let many : length p.before ≡ 3 - n % 4 = omega (arith, f.most, f.multiple) in
    let before : p.before ≡ replicate (3 - n % 4) 0 = f.zeros ∙ ap (λ (k : ℕ). replicate k 0) many in
    λ i. record { before = before i }

-- a packet whose header and padding are laid out as the writer lays them out is written as the octets that were read
pub written_again : (p : Packet) → LawfulPacket p → Plain p.header.content → Trailing p.header.content →
    FillingEnd (length p.payload) p.padding → written.packet_octets (fields_said p.header) p.payload ≡ packet_octets p
unfolding packet_octets fields_with
written_again p l plain t fill =
    same_octets (fields_said p.header) p.payload
    ∙ ap₂ (λ (s : List ℕ) (e : Option Padding). s ++ (p.payload ++ end_octets e))
    (header-rewritten.written_again p.header l.header plain t)
    (go p.header.fixed.padding p.padding l.bit fill)
  where
    go : (b : Bool) (e : Option Padding) → b ≡ present e → FillingEnd (length p.payload) e → chosen_end b (length p.payload) ≡ e
    go false none bit f = refl
    go false (some q) bit f = absurd (let z : ◌≡◌ {A = ℕ} 0 1 = cc in omega arith)
    go true none bit f = absurd (let z : ◌≡◌ {A = ℕ} 0 1 = cc in omega arith)
    go true (some q) bit f = ap (λ (x : Padding). some x) (sym (filling_told (length p.payload) q f))
