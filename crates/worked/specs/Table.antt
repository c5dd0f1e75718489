-- "Cases marked * are proved together, as a single table with a single statement, from the definitions": the table, in the paper's order
-- and notation. A case without a star that stands in a starred line is here too. Assumes nothing.
use Rattle.std.specs.Prelude.{List, [], ◌∷◌, ◌++◌, ℕ, take}
use Rattle.worked.specs.Asked.{Question, header, packet, written, send, depacketize, vp8, join, Says, no, fields, bytes, packets, picture, forward, behind}

-- a header of these first two bytes and this number, with time 2 and source 3
abbrev pub headed : ℕ → ℕ → ℕ → List ℕ
headed first high low = first ∷ 0x60 ∷ high ∷ low ∷ 0 ∷ 0 ∷ 0 ∷ 2 ∷ 0 ∷ 0 ∷ 0 ∷ 3 ∷ []

-- "H = `80 60 0001 00000002 00000003`"
abbrev pub H : List ℕ
H = headed 0x80 0 1

-- "X is H with first byte 90"
abbrev pub X : List ℕ
X = headed 0x90 0 1

-- H with the padding bit
abbrev pub P : List ℕ
P = headed 0xA0 0 1

-- profile BEDE and a length of one word
abbrev pub BEDE1 : List ℕ
BEDE1 = 0xBE ∷ 0xDE ∷ 0 ∷ 1 ∷ []

-- 67AA, 68BB, 650102, each after a start code
abbrev pub pair_then_unit : List ℕ
pair_then_unit = 0 ∷ 0 ∷ 1 ∷ 0x67 ∷ 0xAA ∷ 0 ∷ 0 ∷ 1 ∷ 0x68 ∷ 0xBB ∷ 0 ∷ 0 ∷ 1 ∷ 0x65 ∷ 1 ∷ 2 ∷ []

-- "`000001 650102030405`"
abbrev pub six_bytes : List ℕ
six_bytes = 0 ∷ 0 ∷ 1 ∷ 0x65 ∷ 1 ∷ 2 ∷ 3 ∷ 4 ∷ 5 ∷ []

-- a plain unit, for the joiner
abbrev pub unit : List ℕ
unit = 0x65 ∷ 1 ∷ 2 ∷ []

pub record Row : Type 0 where
  pub asked : Question
  pub answer : Says

abbrev pub row : Question → Says → Row
row q a = record { asked = q; answer = a }

unfoldable pub table : List Row
table =
    -- "*H: version 2, type 96, empty payload."
    row (header H) (fields 2 96 [] 0 [])
    -- "*Its first 11 bytes: 1."
    ∷ row (header (take 11 H)) (no 1)
    -- "*X `BEDE 0001 10AA0000`: id 1, AA, padding 2."
    ∷ row (header (X ++ (BEDE1 ++ (0x10 ∷ 0xAA ∷ 0 ∷ 0 ∷ [])))) (fields 2 96 (record { id = 1; bytes = 0xAA ∷ [] } ∷ []) 2 [])
    -- "*X `BEDE 0001 F0AABBCC DD`: no element, payload AABBCCDD."
    ∷ row (header (X ++ (BEDE1 ++ (0xF0 ∷ 0xAA ∷ 0xBB ∷ 0xCC ∷ 0xDD ∷ []))))
    (fields 2 96 [] 0 (0xAA ∷ 0xBB ∷ 0xCC ∷ 0xDD ∷ []))
    -- "*X `BEDE 0001 00000012 01020304`: element 010203, payload 04."
    ∷ row (header (X ++ (BEDE1 ++ (0 ∷ 0 ∷ 0 ∷ 0x12 ∷ 1 ∷ 2 ∷ 3 ∷ 4 ∷ []))))
    (fields 2 96 (record { id = 1; bytes = 1 ∷ 2 ∷ 3 ∷ [] } ∷ []) 3 (4 ∷ []))
    -- "Ending `0102`: 3."
    ∷ row (header (X ++ (BEDE1 ++ (0 ∷ 0 ∷ 0 ∷ 0x12 ∷ 1 ∷ 2 ∷ [])))) (no 3)
    -- "*Padding bit, payload 00: payload 00."
    ∷ row (packet (P ++ (0 ∷ []))) (bytes (0 ∷ []))
    -- "*Empty: 4."
    ∷ row (packet P) (no 4)
    -- "*Writing 01020304 appends 00000004."
    ∷ row (written P (1 ∷ 2 ∷ 3 ∷ 4 ∷ [])) (bytes (P ++ (1 ∷ 2 ∷ 3 ∷ 4 ∷ 0 ∷ 0 ∷ 0 ∷ 4 ∷ [])))
    -- "*mtu 4, `000001 650102030405`: `7C850102`, `7C050304`, `7C4505`"
    ∷ row (send 4 six_bytes)
    (packets ((0x7C ∷ 0x85 ∷ 1 ∷ 2 ∷ []) ∷ (0x7C ∷ 0x05 ∷ 3 ∷ 4 ∷ []) ∷ (0x7C ∷ 0x45 ∷ 5 ∷ []) ∷ []))
    -- "mtu 2: none."
    ∷ row (send 2 six_bytes) (packets [])
    -- "*67AA, 68BB, 650102 at mtu 9: `78 0002 67AA 0002 68BB`, `650102`"
    ∷ row (send 9 pair_then_unit)
    (packets ((0x78 ∷ 0 ∷ 2 ∷ 0x67 ∷ 0xAA ∷ 0 ∷ 2 ∷ 0x68 ∷ 0xBB ∷ []) ∷ (0x65 ∷ 1 ∷ 2 ∷ []) ∷ []))
    -- "at 8 only `650102`."
    ∷ row (send 8 pair_then_unit) (packets ((0x65 ∷ 1 ∷ 2 ∷ []) ∷ []))
    -- "*`18 0001 41 05`: 18."
    ∷ row (depacketize (0x18 ∷ 0 ∷ 1 ∷ 0x41 ∷ 5 ∷ [])) (no 18)
    -- "*VP8 `908005AA`, then `1007AABB`: id 7, payload AABB."
    ∷ row (vp8 ((0x90 ∷ 0x80 ∷ 5 ∷ 0xAA ∷ []) ∷ (0x10 ∷ 7 ∷ 0xAA ∷ 0xBB ∷ []) ∷ [])) (picture 7 (0xAA ∷ 0xBB ∷ []))
    -- "`10AABB`: 4."
    ∷ row (vp8 ((0x10 ∷ 0xAA ∷ 0xBB ∷ []) ∷ [])) (no 4)
    -- "*d 32,767 is forward, 32,768 Late.": 0 is awaited, and 32,767 or 32,768 comes
    ∷ row (join 3 0 (headed 0x80 0x7F 0xFF ++ unit)) (forward 32767)
    ∷ row (join 3 0 (headed 0x80 0x80 0 ++ unit)) behind
    ∷ []
