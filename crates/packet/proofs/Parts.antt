-- Where a header has no CSRCs and no elements, the arrays of its record are not looked at. Assumes nothing.
use mathlib.Core.Path.{◌≡◌, ap}
use mathlib.Core.List.{List}
use Prim.Native.Nat.{ℕ}
use Rattle.elements.specs.Elements.{elements_of, lay_elements}
use Rattle.header.specs.declared.Header.{Header}
use Rattle.header.specs.Fields.{fields_of, in_domain}
use Rattle.header.specs.Write.{in_writing_domain}
use Rattle.header.specs.Parts.{fixed_of, together, bare}
use Rattle.header.proofs.Apart.{is_emptied}
use Rattle.packet.specs.Write.{write_packet}

pub bare_alike : (h : Header) → h.csrc_count ≡ 0 → h.extensions.count ≡ 0 → (payload : List ℕ) (room : ℕ) →
    write_packet h payload room
    ≡ write_packet (bare (fixed_of h) h.extension_profile h.extensions_padding) payload room
unfolding write_packet in_writing_domain in_domain fields_of elements_of together bare lay_elements
bare_alike h cs es payload room = ap (λ (g : Header). write_packet g payload room) (is_emptied h cs es)
