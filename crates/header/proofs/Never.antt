-- Two tests that the Rust's header makes and this one does not: neither ever fires, so that with them and without them every packet is
-- read alike and every record is written alike. Assumes nothing.
--
-- block_read/proofs/Never.antt and header_write/proofs/Never.antt have the Rust's lines, and why.
use mathlib.Core.Path.{◌≡◌, refl, ap, ap₂, ◌∙◌}
use mathlib.Core.Bool.{Bool, true, false, cond}
use mathlib.Core.List.{List, map}
use Prim.Native.Nat.{ℕ, ◌+◌, ◌*◌, ◌/◌}
use lib.Dec.{ltb}
use lib.ListN.{length, get_or, length-map}
use borrow.Author.Tests.{ltb-false}
use Rattle.error.specs.Said.{Said, says, refuse}
use Rattle.wire.specs.Net.{u16_at, bit}
use Rattle.elements.specs.Elements.{Element, size_of}
use Rattle.elements.proofs.Elements.{sum_sizes}
use Rattle.block.specs.declared.Form.{Form}
use Rattle.block.specs.Form.{form_of, per_element}
use Rattle.block_read.specs.Read.{read_block, block_at}
use Rattle.block_read.proofs.Never.{rust_block, blocks_alike}
use Rattle.header_write.specs.Judge.{judged}
use Rattle.header_write.proofs.Never.{rust_judged, judges_alike}
use Rattle.header.specs.declared.Header.{Header}
use Rattle.header.specs.Fields.{fields_of}
use Rattle.header.specs.Read.{Reading, count_of, fixed_length, reading_of, read_extension, read_fixed, read_header}
use Rattle.header.specs.Size.{payload_length, header_size}
use Rattle.header.specs.Write.{octets_of, in_writing_domain, write_header}

-- ---- reading: 2

-- the Rust's reading of an extension that begins at `at`: its test of the block's length, and then its block
abbrev pub rust_extension : List ℕ → ℕ → ℕ → Said Reading
rust_extension s cc at =
    cond (ltb (length s) (at + 4)) (refuse 2)
    (cond (ltb (length s) (at + 4 + 4 * u16_at s (at + 2))) (refuse 2)
    (reading_of s cc (u16_at s at) (rust_block (form_of (u16_at s at)) s (at + 4) (4 * u16_at s (at + 2)))))

-- so that with the second test and without it every extension is read alike, wherever it begins
pub extensions_alike : (s : List ℕ) (cc at : ℕ) → rust_extension s cc at ≡ read_extension s cc at
unfolding read_extension
extensions_alike s cc at = ap (cond (ltb (length s) (at + 4)) (refuse 2)) (go (ltb (length s) (at + 4 + len)) refl)
  where
    len : ℕ
    len = 4 * u16_at s (at + 2)

    form : Form
    form = form_of (u16_at s at)

    go : (past : Bool) → ltb (length s) (at + 4 + len) ≡ past →
        cond past (refuse 2) (reading_of s cc (u16_at s at) (rust_block form s (at + 4) len))
        ≡ cond past (refuse 2) (reading_of s cc (u16_at s at) (read_block form (block_at s (at + 4) len)))
    go true e = refl
    go false e =
        ap (reading_of s cc (u16_at s at)) (blocks_alike s (at + 4) len (ltb-false (length s) (at + 4 + len) e) form)

-- the Rust's reading of a header, 8 apart
abbrev pub rust_header : List ℕ → Said Reading
rust_header s =
    cond (ltb 65535 (length s)) (refuse 8)
    (cond (ltb (length s) 4) (refuse 1)
    (cond (ltb (length s) (fixed_length (count_of s))) (refuse 1)
    (cond (bit (get_or s 0 0 / 16)) (rust_extension s (count_of s) (fixed_length (count_of s)))
    (reading_of s (count_of s) 0 (says (block_at s (fixed_length (count_of s)) 0))))))

-- .. and every packet
pub reads_alike : (s : List ℕ) → rust_header s ≡ read_header s
unfolding read_header read_fixed
reads_alike s =
    ap
    (λ (x : Said Reading).
    cond (ltb 65535 (length s)) (refuse 8)
    (cond (ltb (length s) 4) (refuse 1)
    (cond (ltb (length s) (fixed_length (count_of s))) (refuse 1)
    (cond (bit (get_or s 0 0 / 16)) x (reading_of s (count_of s) 0 (says (block_at s (fixed_length (count_of s)) 0)))))))
    (extensions_alike s (count_of s) (fixed_length (count_of s)))

-- ---- writing: 9

-- the Rust's writing, 8 apart: it judges the elements by the length of each
abbrev pub rust_write : Header → ℕ → Said (List ℕ)
rust_write h room =
    cond (in_writing_domain h)
    (cond (ltb room (header_size (fields_of h))) (refuse 5)
    (cond h.extension
    (rust_judged (form_of h.extension_profile) (map size_of (fields_of h).elements) (says (octets_of (fields_of h))))
    (says (octets_of (fields_of h)))))
    (refuse 8)

pub writes_alike : (h : Header) (room : ℕ) → rust_write h room ≡ write_header h room
unfolding write_header payload_length fields_of
writes_alike h room =
    ap
    (λ (x : Said (List ℕ)).
    cond (in_writing_domain h) (cond (ltb room (header_size (fields_of h))) (refuse 5) (cond h.extension x (says (octets_of (fields_of h))))) (refuse 8))
    (judges_alike form (map size_of es) (says (octets_of (fields_of h)))
    ∙ ap₂ (λ (n k : ℕ). judged form (n + k * per_element form) k (says (octets_of (fields_of h)))) (sum_sizes es) (length-map es size_of))
  where
    form : Form
    form = form_of h.extension_profile

    es : List Element
    es = (fields_of h).elements
