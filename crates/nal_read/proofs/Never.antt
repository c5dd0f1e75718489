-- Of an FU-A the Rust tests that it has its two header bytes. That never fires: payloads of two bytes and fewer were told before, and none
-- of them is an FU-A. Assumes nothing.
--
-- codecs/h264/mod.rs, `depacketize`:
--
--     if packet.len() <= 1 { return Err(Error::ErrShortPacket); }
--     ..
--     if packet.len() <= 2 && nalu_type != AUD_NALU_TYPE { return Err(Error::ErrShortPacket); }
--     ..
--     match nalu_type {
--         1..=23 => ..
--         STAPA_NALU_TYPE => ..
--         FUA_NALU_TYPE => {
--             if packet.len() < FUA_HEADER_SIZE { return Err(Error::ErrShortPacket); }
--             ..
--         _ => Err(Error::NaluTypeIsNotHandled(nalu_type)),
use mathlib.Core.Path.{◌≡◌, refl, sym, ◌∙◌}
use mathlib.Core.Bool.{Bool, true, false, cond, not, ◌&&◌}
use mathlib.Core.List.{List}
use Prim.Native.Nat.{ℕ, ◌/◌, ◌≤◌, ◌<◌}
use native.Mathlib.Omega.{arith}
use lib.Dec.{ltb, leb, eqb}
use lib.ListN.{length, get_or}
use borrow.Author.Tests.{le-ltb, le-leb, eq-eqb, ne_eqb, eqb-true, leb-true, leb-false}
use Rattle.wire.specs.Net.{bit}
use Rattle.nal_read.specs.Kind.{Shape, short, unknown, plain, aggregate, fragment, head_of, shape_by, shape}
use Rattle.nal_read.proofs.Shapes.{type}

-- what the payload is, by the Rust's tests in their order
abbrev pub rust_fragment : List ℕ → Shape
rust_fragment s =
    cond (ltb (length s) 2) short (fragment (bit (get_or s 1 0 / 128)) (bit (get_or s 1 0 / 64)) (head_of (get_or s 0 0) (get_or s 1 0)))

abbrev pub rust_match : List ℕ → Shape
rust_match s =
    cond (leb 1 (type s) && leb (type s) 23) plain
    (cond (eqb (type s) 24) aggregate (cond (eqb (type s) 28) (rust_fragment s) (unknown (type s))))

abbrev pub rust_shape : List ℕ → Shape
rust_shape s =
    cond (leb (length s) 1) short (cond (leb (length s) 2 && not (eqb (type s) 9)) short (rust_match s))

-- where the last test is reached, it does not hold
pub never_4 : (s : List ℕ) → 1 < length s → ltb (length s) 2 ≡ false
never_4 s long = le-ltb (length s) 2 long

-- so that with it and without it every payload is the same
pub shapes_alike : (s : List ℕ) → rust_shape s ≡ shape s
unfolding shape
shapes_alike s = by_length (leb (length s) 1) (leb (length s) 2) (eqb (type s) 9) refl refl refl
  where
    by_type : (low high stap fu : Bool) → leb 1 (type s) ≡ low → leb (type s) 23 ≡ high → eqb (type s) 24 ≡ stap → eqb (type s) 28 ≡ fu →
        (f : Shape) →
        cond (low && high) plain (cond stap aggregate (cond fu f (unknown (type s))))
        ≡ cond stap aggregate (cond fu f (cond (eqb (type s) 0) (unknown (type s)) (cond high plain (unknown (type s)))))
    by_type true true stap fu l h a b f =
        let some : 1 ≤ type s = leb-true 1 (type s) l in
        let few : type s ≤ 23 = leb-true (type s) 23 h in
        rw (
          sym a ∙ ne_eqb (type s) 24 (λ e. omega arith),
          sym b ∙ ne_eqb (type s) 28 (λ e. omega arith),
          ne_eqb (type s) 0 (λ e. omega arith),
        )
    by_type true false true fu l h a b f = refl
    by_type true false false true l h a b f = refl
    by_type true false false false l h a b f =
        let many : 23 < type s = leb-false (type s) 23 h in
        rw (ne_eqb (type s) 0 (λ e. omega arith))
    by_type false high true fu l h a b f = refl
    by_type false high false true l h a b f = refl
    by_type false high false false l h a b f =
        let none : type s < 1 = leb-false 1 (type s) l in
        let zero : type s ≡ 0 = omega arith in
        rw (eq-eqb (type s) 0 zero)

    by_length : (one two nine : Bool) → leb (length s) 1 ≡ one → leb (length s) 2 ≡ two → eqb (type s) 9 ≡ nine →
        cond one short (cond (two && not nine) short (rust_match s))
        ≡ cond one short (cond two (cond nine plain short) (shape_by (type s) (get_or s 0 0) (get_or s 1 0)))
    by_length true two nine a b c = refl
    by_length false true true a b c =
        let t : type s ≡ 9 = eqb-true (type s) 9 c in
        rw (le-leb 1 (type s) (omega arith), le-leb (type s) 23 (omega arith))
    by_length false true false a b c = refl
    by_length false false nine a b c =
        rw (never_4 s (leb-false (length s) 1 a))
        (by_type (leb 1 (type s)) (leb (type s) 23) (eqb (type s) 24) (eqb (type s) 28) refl refl refl refl _)
