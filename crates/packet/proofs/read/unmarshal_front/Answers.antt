-- The header's answer is taken apart first; what follows is `stripped` with the padding bit, and the rest of the packet without.
use mathlib.Core.Path.{sym, ap, ap₂, subst, ◌∙◌}
use lib.ListN.{length}
use borrow.Author.Tests.{not-true, not-false}
use Rattle.error.specs.Said.{Said}
use Rattle.header.specs.declared.Front.{Front}
use Rattle.header.proofs.Reading.{place_inside}
use Rattle.header.proofs.Fronts.{front_answered, front_refusal}
use Rattle.packet.specs.Read.{Payload, with_fields}
use Rattle.packet.specs.Said.{Begins, unpadded}
use Rattle.packet.proofs.Reading.{said_front, packet_refused, packet_plain, packet_padded, beside_payload, beside_refusal}
use Rattle.packet.proofs.read.unmarshal_front.Goals as goal

pub returns-in_default : goal.returns-in_default
returns-in_default c =
    let s = c.args.packet.now in
    let u = c.unmarshal_front-seen in
    let e = c.in_default.field-0 in
    let told = c.in_default.is in
    ap₂ (λ (x : Said Payload) (f : Front). record { answer = x; front = f })
    (c.unpadded.ensures ∙ ap (unpadded (length s)) told)
    c.default.ensures
    ∙ sym (ap said_front (packet_refused s e (front_refusal u.result s u.ensures e told)))

pub unpadded-requires-then-not-front : goal.unpadded-requires-then-not-front
unpadded-requires-then-not-front c = place_inside _ _ (front_answered c.unmarshal_front-seen.result _ c.unmarshal_front-seen.ensures _ c.in-Ok.is).reads

pub returns-then-not-front : goal.returns-then-not-front
returns-then-not-front c =
    let s = c.args.packet.now in
    let a = front_answered c.unmarshal_front-seen.result _ c.unmarshal_front-seen.ensures _ c.in-Ok.is in
    ap₂ (λ (x : Said Payload) (f : Front). record { answer = x; front = f }) c.unpadded-then-not-front.ensures a.laid
    ∙ sym (ap said_front (packet_plain s _ _ a (not-true _ c.if-not-front.true)))

pub strip-read-requires : goal.strip-read-requires
strip-read-requires c = place_inside _ _ (front_answered c.unmarshal_front-seen.result _ c.unmarshal_front-seen.ensures _ c.in-Ok.is).reads

pub returns-in_default-read : goal.returns-in_default-read
returns-in_default-read c =
    let s = c.args.packet.now in
    let a = front_answered c.unmarshal_front-seen.result _ c.unmarshal_front-seen.ensures _ c.in-Ok.is in
    beside_refusal a.fields c.strip-read.result c.default-in_default-read.result _ c.in_default-read.is c.default-in_default-read.ensures
    ∙ ap (λ (x : Said Payload). said_front (with_fields a.fields x)) c.strip-read.ensures
    ∙ sym (ap said_front (packet_padded s _ _ a (not-false _ c.if-not-front.false)))

pub returns : goal.returns
returns c =
    let s = c.args.packet.now in
    let a = front_answered c.unmarshal_front-seen.result _ c.unmarshal_front-seen.ensures _ c.in-Ok.is in
    beside_payload a.fields c.strip-read.result _ _ c.in-Ok-read.is a.laid
    ∙ ap (λ (x : Said Payload). said_front (with_fields a.fields x)) c.strip-read.ensures
    ∙ sym (ap said_front (packet_padded s _ _ a (not-false _ c.if-not-front.false)))
