-- No second answer: for each public call one result, one record and one content of each lent buffer meet its contract. Each refusal that
-- the definitions give is one of `Error`, so that what a call says can be taken back to the call's own answer. Assumes nothing.
use mathlib.Core.Path.{◌≡◌, refl, ap}
use mathlib.Core.Bool.{Bool, true, false, cond, ◌||◌}
use mathlib.Core.List.{List}
use Prim.Native.Nat.{ℕ, ◌/◌, ◌%◌}
use lib.Dec.{ltb, eqb}
use lib.ListN.{length, get_or}
use Rattle.std.specs.Prelude.{Result}
use Rattle.error.specs.declared.Error.{Error}
use Rattle.error.specs.Refusal.{Refusal}
use Rattle.error.specs.Said.{Said, says, refused, refuse, said}
use Rattle.error.specs.Only.{Determined}
use Rattle.error.proofs.Inverse.{unsaid, unsaid_said}
use Rattle.error.proofs.Only.{by_value, by_view, by_said, Sayable, known, tested}
use Rattle.wire.specs.Turns.{run}
use Rattle.wire.specs.Net.{bit}
use Rattle.nal_read.specs.Kind.{Shape, short, unknown, plain, aggregate, fragment, shape}
use Rattle.nal_read.specs.Unpack.{unpack}
use Rattle.nal.specs.Fed.{Fed, Laid}
use Rattle.nal.specs.Ran.{RanOn, lay_run}
use Rattle.nal_read.proofs.Sayable.{unpack_sayable}
use Rattle.nal.proofs.Sayable.{handing_sayable, run_sayable}
use Rattle.h264_packet.specs.declared.H264Packet.{H264Packet}
use Rattle.h264_packet.specs.declared.Shown.{Shown}
use Rattle.h264_packet.specs.declared.Shown.TheVariants as shown
use Rattle.h264_packet.specs.declared.Depacketized.{Depacketized}
use Rattle.h264_packet.specs.Run.{Run, gathered, run_of, recorded}
use Rattle.h264_packet.specs.Depacketize.{read_by, read_payload, outside, depacketized, Showing, nowhere, in_packet, in_gather, shown_of, body_of, head_test}
use Rattle.h264_packet.specs.Said.{said_shown, Heard, heard, reading_heard, depacketized_heard}

-- ---- the definitions say no other refusal

shape_sayable : (s : Shape) (run : Run) (payload : List ℕ) → Sayable (read_by s run payload)
shape_sayable short run payload = refl
shape_sayable (unknown t) run payload = refl
shape_sayable plain run payload = refl
shape_sayable aggregate run payload =
    handing_sayable run (gathered run) (unpack payload) (unpack_sayable payload)
shape_sayable (fragment first last head) run payload = refl

read_sayable : (avc : Bool) (n : ℕ) (payload gather out : List ℕ) → Sayable (depacketized avc n payload gather out).answer
unfolding depacketized read_payload
read_sayable avc n payload gather out =
    let x : Said (Fed Run) = read_by (shape payload) (run_of n gather) payload in
    tested (λ (l : Laid (RanOn ℕ)). l.answer) (record { answer = refuse 8; gather = gather; out = out }) (lay_run recorded avc gather out x)
    (outside n payload gather) refl (run_sayable recorded avc gather out x (shape_sayable (shape payload) (run_of n gather) payload))

-- ---- depacketize

abbrev shown_by : Showing → Shown
shown_by nowhere = shown.Nowhere
shown_by in_packet = shown.Packet
shown_by (in_gather n) = shown.Gather n

shown_by_said : (s : Shown) → shown_by (said_shown s) ≡ s
shown_by_said shown.Nowhere = refl
shown_by_said shown.Packet = refl
shown_by_said (shown.Gather n) = refl

said_shown_by : (s : Showing) → said_shown (shown_by s) ≡ s
said_shown_by nowhere = refl
said_shown_by in_packet = refl
said_shown_by (in_gather n) = refl

-- what a call hands back: its result, the gather buffer and the output
abbrev pub Handed : Type 0
Handed = Depacketized × List ℕ × List ℕ

abbrev view : Handed → Heard
view x = heard x.0 x.1 x.2

abbrev back : Heard → Handed
back h = (record { packet = h.packet; answer = unsaid h.answer; shown = shown_by h.showing }, h.gather, h.out)

back_view : (x : Handed) → back (view x) ≡ x
back_view x i = (
  record { packet = x.0.packet; answer = unsaid_said x.0.answer i; shown = shown_by_said x.0.shown i },
  x.1,
  x.2,
)

view_back : (p : H264Packet) (payload gather out : List ℕ) (x : Said (RanOn ℕ)) → Sayable x →
    view (back (reading_heard p payload gather out x)) ≡ reading_heard p payload gather out x
view_back p payload gather out (says r) e =
    ap
    (λ (s : Showing). record { packet = record { is_avc = p.is_avc; gathered = r.run }; answer = says r.bytes; showing = s; gather = gather; out = out })
    (said_shown_by (shown_of (shape payload) p.gathered (length payload)))
view_back p payload gather out (refused r) e =
    ap (λ (k : Refusal). record { packet = p; answer = refused k; showing = nowhere; gather = gather; out = out })
    (known {A = RanOn ℕ} {r = r} e)

pub depacketize_only : (p : H264Packet) (payload gather out : List ℕ) →
    Determined (λ (x : Handed). heard x.0 x.1 x.2 ≡ depacketized_heard p payload (depacketized p.is_avc p.gathered payload gather out))
depacketize_only p payload gather out =
    let l : Laid (RanOn ℕ) = depacketized p.is_avc p.gathered payload gather out in
    by_view view back back_view (back (depacketized_heard p payload l)) (depacketized_heard p payload l)
    (view_back p payload l.gather l.out l.answer (read_sayable p.is_avc p.gathered payload gather out))

-- ---- the body, and the partition tests

pub body_only : (s : Shown) (packet gather : List ℕ) → Determined (λ (r : List ℕ). r ≡ body_of (said_shown s) packet gather)
body_only s packet gather = by_value (body_of (said_shown s) packet gather)

head_sayable : (s : List ℕ) → Sayable (head_test s)
unfolding head_test
head_sayable s =
    let t : ℕ = get_or s 0 0 % 32 in
    let start : Said Bool = says (bit (get_or s 1 0 / 128)) in
    let typed : Said Bool = cond (eqb t 28 || eqb t 29) start (says true) in
    tested (λ (x : Said Bool). x) (refuse 8) (cond (ltb (length s) 2) (says false) typed) (ltb 65535 (length s)) refl
    (tested (λ (x : Said Bool). x) (says false) typed (ltb (length s) 2) refl
    (tested (λ (x : Said Bool). x) start (says true) (eqb t 28 || eqb t 29) refl refl))

pub is_partition_head_only : (s : List ℕ) → Determined (λ (r : Result Bool Error). said r ≡ head_test s)
is_partition_head_only s = by_said (head_test s) (head_sayable s)

pub is_partition_tail_only : (marker : Bool) → Determined (λ (r : Bool). r ≡ marker)
is_partition_tail_only marker = by_value marker
