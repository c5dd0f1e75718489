-- A record and its parts are one: put together again they are the record, measured by its parts it is measured, and where it has no CSRCs
-- and no elements its arrays are not looked at. Assumes nothing.
use Rattle.std.specs.Prelude.{Result, Ok, Err}
use mathlib.Core.Path.{◌≡◌, refl, sym, ap, ap₂, ◌∙◌}
use mathlib.Core.Bool.{false}
use mathlib.Core.List.{List, []}
use Prim.Native.Nat.{ℕ, ◌*◌, ◌≤◌}
use native.Mathlib.Nat.{zero-mul}
use native.Mathlib.Omega.{arith}
use lib.ListN.{length}
use Rattle.error.specs.declared.Error.{Error}
use Rattle.error.specs.Said.{refuse, said}
use Rattle.wire.proofs.Part.{length_pad_to}
use Rattle.elements.specs.declared.Extensions.{Extensions}
use Rattle.elements.specs.Elements.{elements_of, lay_elements}
use Rattle.block.specs.Form.{form_of, per_element}
use Rattle.header_write.specs.declared.Fixed.{Fixed}
use Rattle.header_write.specs.declared.Parts.{Parts}
use Rattle.header_write.specs.Parts as parts
use Rattle.header_write.specs.Parts.{Whole}
use Rattle.header_write.proofs.Domain.{measured_outside, measured_says, measured_refuses}
use Rattle.header.specs.declared.Header.{Header}
use Rattle.header.specs.Fields.{fields_of, in_domain}
use Rattle.header.specs.Write.{in_writing_domain, write_header}
use Rattle.header.specs.Parts.{fixed_of, together, record_of, bare}
use Rattle.header.proofs.Sizes.{Arrays, length_in}
use Rattle.header.proofs.Writing.{Measured, measured, not_fine}

-- ---- put together again

pub together_whole : (h : Header) →
    together (fixed_of h) h.csrc_count h.csrc h.extension_profile h.extensions h.extensions_padding ≡ h
unfolding together
together_whole h = refl

pub together_of : (h : Header) {f : Fixed} → f ≡ fixed_of h →
    together f h.csrc_count h.csrc h.extension_profile h.extensions h.extensions_padding ≡ h
together_of h e =
    ap
    (λ (f : Fixed).
    together f h.csrc_count h.csrc h.extension_profile h.extensions h.extensions_padding) e
    ∙ together_whole h

pub arrays_of : (f : Fixed) (n : ℕ) (csrc : List ℕ) (profile : ℕ) (x : Extensions) (pads : ℕ) → length csrc ≡ 15 → length x.ids ≡ 32 →
    length x.lens ≡ 32 → length x.bytes ≡ 1024 → Arrays (together f n csrc profile x pads)
unfolding together
arrays_of f n csrc profile x pads c i l b = record { csrc = c; ids = i; lens = l; bytes = b }

-- ---- without CSRCs and elements

-- the record with its two counts as 0
abbrev pub emptied : Header → Header
emptied h =
    together (fixed_of h) 0 h.csrc h.extension_profile
    (record { count = 0; ids = h.extensions.ids; lens = h.extensions.lens; bytes = h.extensions.bytes }) h.extensions_padding

pub is_emptied : (h : Header) → h.csrc_count ≡ 0 → h.extensions.count ≡ 0 → h ≡ emptied h
unfolding together
is_emptied h cs es =
    ap₂
    (λ (n k : ℕ).
    together (fixed_of h) n h.csrc h.extension_profile
    (record { count = k; ids = h.extensions.ids; lens = h.extensions.lens; bytes = h.extensions.bytes }) h.extensions_padding)
    cs es

pub bare_alike : (h : Header) → h.csrc_count ≡ 0 → h.extensions.count ≡ 0 → (room : ℕ) →
    write_header h room ≡ write_header (bare (fixed_of h) h.extension_profile h.extensions_padding) room
unfolding write_header in_writing_domain in_domain fields_of elements_of together bare lay_elements
bare_alike h cs es room = ap (λ (g : Header). write_header g room) (is_emptied h cs es)

module _ (f : Fixed) (profile pads : ℕ) where
  pub bare_arrays : Arrays (bare f profile pads)
  unfolding bare together lay_elements
  bare_arrays =
      record {
        csrc = length_pad_to 15 [] (omega arith);
        ids = length_pad_to 32 [] (omega arith);
        lens = length_pad_to 32 [] (omega arith);
        bytes = length_pad_to 1024 [] (omega arith);
      }

  bare_length : 0 ≡ length_in (bare f profile pads)
  unfolding bare together lay_elements
  bare_length = let z : 0 * per_element (form_of profile) ≡ 0 = zero-mul (per_element (form_of profile)) in omega arith

  -- three tests are all
  pub bare_measured : f.version ≤ 3 → f.payload_type ≤ 127 → pads ≤ 262140 → Measured (bare f profile pads) 0
  unfolding bare together lay_elements
  bare_measured v t z =
      measured (bare f profile pads) bare_arrays 0
      (record {
        limits = record { sources = omega arith; elements = omega arith; bytes = omega arith; zeros = z };
        version = v;
        type = t;
        fit = refl;
      })
      bare_length

  pub bare_outside : (f.version ≤ 3 → f.payload_type ≤ 127 → pads ≤ 262140 → ⊥) → in_writing_domain (bare f profile pads) ≡ false
  unfolding bare together
  bare_outside out = not_fine (bare f profile pads) bare_arrays (λ w. out w.version w.type w.limits.zeros)

-- ---- the record of parts that were measured

module _ (p : Parts) (whole : Whole p) (r : Result ℕ Error)
    (e : said r ≡ parts.measured p.fixed p.csrc_count p.profile p.count p.ids.now p.lens.now p.padding) where
  arrays : Arrays (record_of p)
  unfolding together
  arrays = record { csrc = whole.csrc; ids = whole.ids; lens = whole.lens; bytes = whole.bytes }

  pub known_of : (k : ℕ) → r ≡ Ok k → Measured (record_of p) k
  unfolding together
  known_of k is =
      let s = measured_says p.fixed p.csrc_count p.profile p.count p.ids.now p.lens.now p.padding r e k is in
      measured (record_of p) arrays k s.0 s.1

  -- .. or 8
  pub unknown_of : (k : Error) → r ≡ Err k → (said {A = ℕ} (Err k) ≡ refuse 8) × (in_writing_domain (record_of p) ≡ false)
  unfolding together
  unknown_of k is =
      let out = measured_refuses p.fixed p.csrc_count p.profile p.count p.ids.now p.lens.now p.padding r e k is in (
        sym (ap said is) ∙ e ∙ measured_outside p.fixed p.csrc_count p.profile p.count p.ids.now p.lens.now p.padding out,
        not_fine (record_of p) arrays out,
      )
