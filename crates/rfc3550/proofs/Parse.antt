-- Octets alone, without a reader: every list of octets begins with a lawful header of RFC 3550, or is cut short, since the fields take
-- every value that their octets have. Assumes nothing.
use mathlib.Core.Path.{◌≡◌, refl, sym, ap, ◌∙◌, subst}
use mathlib.Core.Bool.{Bool, true, false}
use mathlib.Core.List.{List, [], ◌∷◌, ◌++◌, append_assoc}
use mathlib.Core.Logic.{◌⊎◌, inl, inr}
use mathlib.Core.Option.{Option, none, some}
use Prim.Native.Nat.{ℕ, zero, suc, ◌+◌, ◌*◌, ◌/◌, ◌%◌, ◌<◌, ◌≤◌}
use native.Mathlib.Nat.{lt_of_not-le}
use native.Mathlib.Decide.{dec_le, ℕ_discrete}
use native.Mathlib.Omega.{arith}
use lib.ListN.{length, take, drop, length-append, take-append-drop}
use lib.Seq.{length-take-le, drop_at}
use Rattle.wire.specs.Net.{be16, be32, u16_at}
use Rattle.wire.proofs.Net.{be16_of_u16, be32_of_u32, length_be16, u16_at_drop, u16_of_be16}
use Rattle.rfc3550.specs.Rfc3550.{AllBelow, Octets, Fixed, LawfulFixed, one_if, first_octet, second_octet, csrc_octets, fixed_octets, Extension, LawfulExtension, extension_octets, LawfulPart, octets, Begins, CutShort, fixed_cut, csrcs_cut, head_cut, content_cut, extension_at, words_at}
use Rattle.rfc3550.proofs.Places.{length_fixed, behind_fixed, count_at, extension_at_lem, length_extension, words_at_lem, plain_octets, extended_octets}

-- ---- numbers in front

pub record Front (write : ℕ → List ℕ) (size bound : ℕ) (s : List ℕ) : Type 0 where
  pub number : ℕ
  pub below : number < bound
  pub rest : List ℕ
  pub octets : Octets rest
  pub long : length s ≡ size + length rest
  pub same : write number ++ rest ≡ s

two_front : (s : List ℕ) → Octets s → 2 ≤ length s → Front be16 2 65536 s
two_front [] o h = absurd (omega arith)
two_front (a ∷ []) o h = absurd (omega arith)
two_front (a ∷ b ∷ rest) o h =
    record {
      number = a * 256 + b;
      below = omega (arith, o.0, o.1.0);
      rest = rest;
      octets = o.1.1;
      long = omega arith;
      same = ap (λ (t : List ℕ). t ++ rest) (be16_of_u16 a b o.0 o.1.0);
    }

four_front : (s : List ℕ) → Octets s → 4 ≤ length s → Front be32 4 4294967296 s
four_front [] o h = absurd (omega arith)
four_front (a ∷ []) o h = absurd (omega arith)
four_front (a ∷ b ∷ []) o h = absurd (omega arith)
four_front (a ∷ b ∷ c ∷ []) o h = absurd (omega arith)
four_front (a ∷ b ∷ c ∷ d ∷ rest) o h =
    record {
      number = a * 16777216 + b * 65536 + c * 256 + d;
      below = omega (arith, o.0, o.1.0, o.1.1.0, o.1.1.1.0);
      rest = rest;
      octets = o.1.1.1.1;
      long = omega arith;
      same = ap (λ (t : List ℕ). t ++ rest) (be32_of_u32 a b c d o.0 o.1.0 o.1.1.0 o.1.1.1.0);
    }

pub record Csrcs (n : ℕ) (s : List ℕ) : Type 0 where
  pub csrcs : List ℕ
  pub count : length csrcs ≡ n
  pub below : AllBelow 4294967296 csrcs
  pub rest : List ℕ
  pub octets : Octets rest
  pub same : csrc_octets csrcs ++ rest ≡ s

csrcs_front : (n : ℕ) (s : List ℕ) → Octets s → 4 * n ≤ length s → Csrcs n s
csrcs_front zero s o h = record { csrcs = []; count = refl; below = tt; rest = s; octets = o; same = refl }
csrcs_front (suc n) s o h =
    let one : Front be32 4 4294967296 s = four_front s o (omega arith) in
    let others : Csrcs n one.rest = csrcs_front n one.rest one.octets (omega (arith, one.long)) in
    record {
      csrcs = one.number ∷ others.csrcs;
      count = ap suc others.count;
      below = (one.below, others.below);
      rest = others.rest;
      octets = others.octets;
      same = append_assoc (be32 one.number) (csrc_octets others.csrcs) others.rest
          ∙ ap (λ (t : List ℕ). be32 one.number ++ t) others.same
          ∙ one.same;
    }

-- a bit as the plan has it
bit_of : (n : ℕ) → (b : Bool) × (one_if b ≡ n % 2)
bit_of n =
    elim (ℕ_discrete (n % 2) 1) [
      | yes e ↦ (true, sym e)
      | no e ↦ (false, omega arith)
    ]

-- ---- the fixed header in front

-- an octet is its bits
first_octet_lem : (a p x n : ℕ) → a < 256 → p ≡ a / 32 % 2 → x ≡ a / 16 % 2 → n ≡ a % 16 → a / 64 * 64 + p * 32 + x * 16 + n ≡ a
first_octet_lem a p x n h ep ex en = omega arith

second_octet_lem : (b m : ℕ) → b < 256 → m ≡ b / 128 % 2 → m * 128 + b % 128 ≡ b
second_octet_lem b m h em = omega arith

pub record FixedFront (s : List ℕ) : Type 0 where
  pub fixed : Fixed
  pub lawful : LawfulFixed fixed
  pub x : Bool
  pub rest : List ℕ
  pub octets : Octets rest
  pub same : fixed_octets fixed x ++ rest ≡ s

fixed_front : (a b : ℕ) (s : List ℕ) → Octets (a ∷ b ∷ s) → 10 + 4 * (a % 16) ≤ length s → FixedFront (a ∷ b ∷ s)
unfolding fixed_octets
fixed_front a b s o h =
    record {
      fixed = fixed;
      lawful = record {
        version = omega (arith, o.0);
        payload_type = omega arith;
        sequence_number = number.below;
        timestamp = time.below;
        ssrc = source.below;
        count = omega (arith, csrcs.count);
        csrcs = csrcs.below;
      };
      x = (bit_of (a / 16)).0;
      rest = csrcs.rest;
      octets = csrcs.octets;
      same = (λ i. first i ∷ second i ∷ (regroup i)) ∙ ap (λ (t : List ℕ). a ∷ b ∷ t) all;
    }
  where
    number : Front be16 2 65536 s
    number = two_front s o.1.1 (omega arith)

    time : Front be32 4 4294967296 number.rest
    time = four_front number.rest number.octets (omega (arith, number.long))

    source : Front be32 4 4294967296 time.rest
    source = four_front time.rest time.octets (omega (arith, number.long, time.long))

    csrcs : Csrcs (a % 16) source.rest
    csrcs = csrcs_front (a % 16) source.rest source.octets (omega (arith, number.long, time.long, source.long))

    fixed : Fixed
    fixed =
        record {
          version = a / 64;
          padding = (bit_of (a / 32)).0;
          marker = (bit_of (b / 128)).0;
          payload_type = b % 128;
          sequence_number = number.number;
          timestamp = time.number;
          ssrc = source.number;
          csrcs = csrcs.csrcs;
        }

    first : first_octet fixed (bit_of (a / 16)).0 ≡ a
    first = first_octet_lem a (one_if (bit_of (a / 32)).0) (one_if (bit_of (a / 16)).0) (length csrcs.csrcs) o.0 (bit_of (a / 32)).1 (bit_of (a / 16)).1 csrcs.count

    second : second_octet fixed ≡ b
    second = second_octet_lem b (one_if (bit_of (b / 128)).0) o.1.0 (bit_of (b / 128)).1

    regroup : be16 number.number ++ (be32 time.number ++ (be32 source.number ++ csrc_octets csrcs.csrcs)) ++ csrcs.rest
        ≡ be16 number.number ++ (be32 time.number ++ (be32 source.number ++ (csrc_octets csrcs.csrcs ++ csrcs.rest)))
    regroup = simp append_assoc

    all : be16 number.number ++ (be32 time.number ++ (be32 source.number ++ (csrc_octets csrcs.csrcs ++ csrcs.rest))) ≡ s
    all =
        ap (λ (t : List ℕ). be16 number.number ++ (be32 time.number ++ (be32 source.number ++ t))) csrcs.same
        ∙ ap (λ (t : List ℕ). be16 number.number ++ (be32 time.number ++ t)) source.same
        ∙ ap (λ (t : List ℕ). be16 number.number ++ t) time.same
        ∙ number.same

front_of : (s : List ℕ) → Octets s → 12 ≤ length s → extension_at s ≤ length s → FixedFront s
front_of [] o h g = absurd (omega arith)
front_of (a ∷ []) o h g = absurd (omega arith)
front_of (a ∷ b ∷ s) o h g = fixed_front a b s o (omega arith)

-- ---- the extension behind it

module _ (f : Fixed) (l : LawfulFixed f) (rest : List ℕ) (o : Octets rest) where
  abbrev s : List ℕ
  s = fixed_octets f true ++ rest

  at_rest : drop (extension_at s) s ≡ rest
  at_rest = ap (λ (n : ℕ). drop (12 + 4 * n) s) (count_at f true l rest) ∙ behind_fixed f true l rest

  long : length s ≡ extension_at s + length rest
  long = length-append (fixed_octets f true) rest ∙ omega (arith, length_fixed f true l rest, count_at f true l rest)

  with_head : 4 ≤ length rest → Begins s ⊎ CutShort s
  unfolding extension_octets
  with_head h =
      elim (dec_le (4 * words.number) (length words.rest)) [
        | yes fits ↦
            inl
            (record {
              plan = record { fixed = f; extension = some x };
              lawful = record {
                fixed = l;
                extension = record { profile = profile.below; words = words.below; content = length-take-le (4 * words.number) words.rest fits };
              };
              payload = drop (4 * words.number) words.rest;
              same = extended_octets f x (drop (4 * words.number) words.rest) ∙ ap (λ (t : List ℕ). fixed_octets f true ++ t) again;
            })
        | no over ↦
            inr
            (content_cut (extension_at_lem f true l rest) (omega (arith, long))
            (omega (arith, long, profile.long, words.long, said, lt_of_not-le over)))
      ]
    where
      profile : Front be16 2 65536 rest
      profile = two_front rest o (omega arith)

      words : Front be16 2 65536 profile.rest
      words = two_front profile.rest profile.octets (omega (arith, profile.long))

      x : Extension
      x = record { profile = profile.number; words = words.number; content = take (4 * words.number) words.rest }

      said : words_at s ≡ words.number
      said =
          sym (u16_at_drop s (extension_at s) 2)
          ∙ ap (λ (t : List ℕ). u16_at t 2) at_rest
          ∙ sym (u16_at_drop rest 2 0)
          ∙ ap (λ (t : List ℕ). u16_at t 0)
          (ap (drop 2) (sym profile.same) ∙ drop_at (be16 profile.number) profile.rest 2 (length_be16 profile.number) ∙ sym words.same)
          ∙ u16_of_be16 words.number words.rest words.below

      again : extension_octets x ++ drop (4 * words.number) words.rest ≡ rest
      again =
          append_assoc (be16 profile.number) (be16 words.number ++ x.content) (drop (4 * words.number) words.rest)
          ∙ ap (λ (t : List ℕ). be16 profile.number ++ t)
          (append_assoc (be16 words.number) x.content (drop (4 * words.number) words.rest)
          ∙ ap (λ (t : List ℕ). be16 words.number ++ t) (take-append-drop (4 * words.number) words.rest)
          ∙ words.same)
          ∙ profile.same

  extension_or_cut : Begins s ⊎ CutShort s
  extension_or_cut =
      elim (dec_le 4 (length rest)) [
        | yes h ↦ with_head h
        | no h ↦ inr (head_cut (extension_at_lem f true l rest) (omega (arith, long)) (omega (arith, long, lt_of_not-le h)))
      ]

-- ---- every list of octets begins with a header, or is cut short

behind_front : (f : Fixed) → LawfulFixed f → (x : Bool) (rest : List ℕ) → Octets rest →
    Begins (fixed_octets f x ++ rest) ⊎ CutShort (fixed_octets f x ++ rest)
behind_front f l true rest o = extension_or_cut f l rest o
behind_front f l false rest o =
    inl
    (record {
      plan = record { fixed = f; extension = none };
      lawful = record { fixed = l; extension = tt };
      payload = rest;
      same = ap (λ (t : List ℕ). t ++ rest) (plain_octets f);
    })

pub begins_or_cut : (s : List ℕ) → Octets s → Begins s ⊎ CutShort s
begins_or_cut s o =
    elim (dec_le 12 (length s)) [
      | yes h ↦
          elim (dec_le (extension_at s) (length s)) [
            | yes g ↦
                let front : FixedFront s = front_of s o h g in
                subst (λ (t : List ℕ). Begins t ⊎ CutShort t) front.same
                (behind_front front.fixed front.lawful front.x front.rest front.octets)
            | no g ↦ inr (csrcs_cut h (lt_of_not-le g))
          ]
      | no h ↦ inr (fixed_cut (lt_of_not-le h))
    ]

-- ---- and never both

whole_plain : (f : Fixed) → LawfulFixed f → (payload : List ℕ) → CutShort (fixed_octets f false ++ payload) → ⊥
whole_plain f l payload c = go c
  where
    long : length (fixed_octets f false ++ payload) ≡ extension_at (fixed_octets f false ++ payload) + length payload
    long = length-append (fixed_octets f false) payload ∙ omega (arith, length_fixed f false l payload, count_at f false l payload)

    go : CutShort (fixed_octets f false ++ payload) → ⊥
    go (fixed_cut h) = omega (arith, long)
    go (csrcs_cut g h) = omega (arith, long)
    go (head_cut x g h) = omega (arith, extension_at_lem f false l payload)
    go (content_cut x g h) = omega (arith, extension_at_lem f false l payload)

whole_extended : (f : Fixed) → LawfulFixed f → (x : Extension) → LawfulExtension x → (payload : List ℕ) →
    CutShort (fixed_octets f true ++ (extension_octets x ++ payload)) → ⊥
whole_extended f l x k payload c = go c
  where
    tail : List ℕ
    tail = extension_octets x ++ payload

    s : List ℕ
    s = fixed_octets f true ++ tail

    at_tail : drop (extension_at s) s ≡ tail
    at_tail = ap (λ (n : ℕ). drop (12 + 4 * n) s) (count_at f true l tail) ∙ behind_fixed f true l tail

    long : length s ≡ extension_at s + (4 + 4 * x.words + length payload)
    long =
        length-append (fixed_octets f true) tail
        ∙ omega (arith, length_fixed f true l tail, count_at f true l tail, length-append (extension_octets x) payload, length_extension x k)

    said : words_at s ≡ x.words
    said = words_at_lem x k payload s (extension_at s) at_tail

    go : CutShort s → ⊥
    go (fixed_cut h) = omega (arith, long)
    go (csrcs_cut g h) = omega (arith, long)
    go (head_cut b g h) = omega (arith, long)
    go (content_cut b g h) = omega (arith, long, said)

pub begins_not_cut : (s : List ℕ) → Begins s → CutShort s → ⊥
begins_not_cut s b c = go b.plan.extension b.lawful.extension b.same
  where
    go : (e : Option Extension) → LawfulPart e → octets (record { fixed = b.plan.fixed; extension = e }) ++ b.payload ≡ s → ⊥
    go none l same =
        whole_plain b.plan.fixed b.lawful.fixed b.payload
        (subst CutShort (sym same ∙ ap (λ (t : List ℕ). t ++ b.payload) (plain_octets b.plan.fixed)) c)
    go (some x) l same =
        whole_extended b.plan.fixed b.lawful.fixed x l b.payload
        (subst CutShort (sym same ∙ extended_octets b.plan.fixed x b.payload) c)
