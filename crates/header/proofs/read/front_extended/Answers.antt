-- The tests are those of `read_extension`, and the front stands round the block's answer as `around` has it.
use Rattle.std.specs.Prelude.{Result}
use mathlib.Core.Path.{◌≡◌, sym, ap, ap₂, ◌∙◌}
use mathlib.Core.List.{List}
use Prim.Native.Nat.{ℕ, ◌+◌, ◌*◌, ◌≤◌}
use native.Mathlib.Omega.{arith}
use lib.ListN.{length}
use borrow.Author.Rules.{rules}
use Rattle.error.specs.declared.Error.{Error}
use Rattle.error.specs.Said.{said}
use Rattle.wire.specs.Net.{u16_at}
use Rattle.block.specs.declared.Form.{Form}
use Rattle.block.specs.Form.{form_of}
use Rattle.block_read.specs.declared.Seen.{Seen}
use Rattle.block_read.specs.Read.{read_block, block_at}
use Rattle.block_read.specs.Said.{block_seen}
use Rattle.header.specs.Read.{reading_of, read_extension}
use Rattle.header.proofs.Reading.{said_front, around, heard_around, extension_cut, block_cut, block_whole, heard_payload, heard_refused}
use Rattle.header.proofs.read.front_extended.Goals as goal

pub returns-then-packet-at : goal.returns-then-packet-at
returns-then-packet-at c =
    let a = c.args in
    c.refused_front.ensures ∙ sym (ap said_front (extension_cut a.packet.now a.cc a.at c.if-packet-at.true))

pub returns-then-packet-start : goal.returns-then-packet-start
returns-then-packet-start c =
    let a = c.args in
    let w = c.from-len.ensures ∙ c.get_u16.ensures in
    c.refused_front-then-packet-start.ensures
    ∙ sym (ap said_front (block_cut a.packet.now a.cc a.at (search rules) (omega (arith, c.if-packet-start.true, w))))

-- the block's answer, with the front round it, is what the definition says
block : (s : List ℕ) (cc at profile n : ℕ) (form : Form) (q : Result Seen Error) →
    said q ≡ block_seen (length s) (read_block form (block_at s (at + 4) (4 * n))) → form ≡ form_of profile →
    profile ≡ u16_at s at → n ≡ u16_at s (at + 2) → at + 4 ≤ length s → at + 4 + 4 * n ≤ length s →
    around s cc profile (said q) ≡ said_front (read_extension s cc at)
block s cc at profile n form q e g p w h fits =
    ap (around s cc profile) e
    ∙ sym (heard_around s cc profile (read_block form (block_at s (at + 4) (4 * n))))
    ∙ ap (λ (f : Form). said_front (reading_of s cc profile (read_block f (block_at s (at + 4) (4 * n))))) g
    ∙ ap₂ (λ (p k : ℕ). said_front (reading_of s cc p (read_block (form_of p) (block_at s (at + 4) (4 * k))))) p w
    ∙ sym (ap said_front (block_whole s cc at h (omega arith)))

pub returns-in-Ok : goal.returns-in-Ok
returns-in-Ok c =
    let a = c.args in
    c.front_at.ensures
    ∙ heard_payload _ _ _ _ _ c.in-Ok.is
    ∙ block a.packet.now a.cc a.at _ _ _ c.see_block.result c.see_block.ensures c.from.ensures c.get_u16-profile.ensures
    (c.from-len.ensures ∙ c.get_u16.ensures) (search rules) (search rules)

pub returns-in-Err : goal.returns-in-Err
returns-in-Err c =
    let a = c.args in
    c.refused_front-in-Err.ensures
    ∙ heard_refused _ _ _ _ _ c.in-Err.is
    ∙ block a.packet.now a.cc a.at _ _ _ c.see_block.result c.see_block.ensures c.from.ensures c.get_u16-profile.ensures
    (c.from-len.ensures ∙ c.get_u16.ensures) (search rules) (search rules)
