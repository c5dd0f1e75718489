-- "VP8 (003, RFC 7741)", reading: what is read of a packet, in the Rust's order, and which fields are kept. Assumes nothing.
use Rattle.std.specs.Prelude.{cond, ◌||◌, List, ℕ, ◌+◌, ◌/◌, ◌%◌, ltb, eqb, length, get_or, drop}
use Rattle.error.specs.Said.{Said, says, refuse}
use Rattle.wire.specs.Net.{u16_at}
use Rattle.vp8_read.specs.declared.Vp8Packet.{Vp8Packet}

-- a record of which nothing was read
abbrev pub blank : Vp8Packet
blank =
    record {
      x = 0;
      n = 0;
      s = 0;
      pid = 0;
      i = 0;
      l = 0;
      t = 0;
      k = 0;
      picture_id = 0;
      tl0_pic_idx = 0;
      tid = 0;
      y = 0;
      key_idx = 0;
    }

-- ---- fields set, all others kept

-- the required ones
unfoldable pub put_required : ℕ → ℕ → ℕ → ℕ → Vp8Packet → Vp8Packet
put_required x n s pid p =
    record {
      x = x;
      n = n;
      s = s;
      pid = pid;
      i = p.i;
      l = p.l;
      t = p.t;
      k = p.k;
      picture_id = p.picture_id;
      tl0_pic_idx = p.tl0_pic_idx;
      tid = p.tid;
      y = p.y;
      key_idx = p.key_idx;
    }

-- the flags
unfoldable pub put_flags : ℕ → ℕ → ℕ → ℕ → Vp8Packet → Vp8Packet
put_flags i l t k p =
    record {
      x = p.x;
      n = p.n;
      s = p.s;
      pid = p.pid;
      i = i;
      l = l;
      t = t;
      k = k;
      picture_id = p.picture_id;
      tl0_pic_idx = p.tl0_pic_idx;
      tid = p.tid;
      y = p.y;
      key_idx = p.key_idx;
    }

-- picture_id
unfoldable pub put_picture_id : ℕ → Vp8Packet → Vp8Packet
put_picture_id id p =
    record {
      x = p.x;
      n = p.n;
      s = p.s;
      pid = p.pid;
      i = p.i;
      l = p.l;
      t = p.t;
      k = p.k;
      picture_id = id;
      tl0_pic_idx = p.tl0_pic_idx;
      tid = p.tid;
      y = p.y;
      key_idx = p.key_idx;
    }

-- tl0_pic_idx
unfoldable pub put_tl0 : ℕ → Vp8Packet → Vp8Packet
put_tl0 index p =
    record {
      x = p.x;
      n = p.n;
      s = p.s;
      pid = p.pid;
      i = p.i;
      l = p.l;
      t = p.t;
      k = p.k;
      picture_id = p.picture_id;
      tl0_pic_idx = index;
      tid = p.tid;
      y = p.y;
      key_idx = p.key_idx;
    }

-- tid and y
unfoldable pub put_tid : ℕ → ℕ → Vp8Packet → Vp8Packet
put_tid tid y p =
    record {
      x = p.x;
      n = p.n;
      s = p.s;
      pid = p.pid;
      i = p.i;
      l = p.l;
      t = p.t;
      k = p.k;
      picture_id = p.picture_id;
      tl0_pic_idx = p.tl0_pic_idx;
      tid = tid;
      y = y;
      key_idx = p.key_idx;
    }

-- key_idx
unfoldable pub put_key : ℕ → Vp8Packet → Vp8Packet
put_key index p =
    record {
      x = p.x;
      n = p.n;
      s = p.s;
      pid = p.pid;
      i = p.i;
      l = p.l;
      t = p.t;
      k = p.k;
      picture_id = p.picture_id;
      tl0_pic_idx = p.tl0_pic_idx;
      tid = p.tid;
      y = p.y;
      key_idx = index;
    }

-- ---- the fields that a byte of the descriptor sets

-- |X|R|N|S|R| PID |
abbrev pub set_required : ℕ → Vp8Packet → Vp8Packet
set_required b p = put_required (b / 128) (b / 32 % 2) (b / 16 % 2) (b % 8) p

-- |I|L|T|K| RSV   |
abbrev pub set_flags : ℕ → Vp8Packet → Vp8Packet
set_flags b p = put_flags (b / 128) (b / 64 % 2) (b / 32 % 2) (b / 16 % 2) p

-- |TID|Y| KEYIDX  |: tid and y where T is 1, key_idx where K is 1
unfoldable pub set_tid : ℕ → Vp8Packet → Vp8Packet
set_tid b p = cond (eqb p.t 1) (put_tid (b / 64) (b / 32 % 2) p) p

unfoldable pub set_key : ℕ → Vp8Packet → Vp8Packet
set_key b p = cond (eqb p.k 1) (put_key (b % 32) p) p

abbrev pub set_indices : ℕ → Vp8Packet → Vp8Packet
set_indices b p = set_key b (set_tid b p)

-- ---- the stages

-- the fields so far, the place of the next byte, and the bytes from there on
pub record Stage : Type 0 where
  pub packet : Vp8Packet
  pub at : ℕ
  pub rest : List ℕ

abbrev pub next : Stage → ℕ
next c = get_or c.rest 0 0

-- n bytes further, with these fields
abbrev pub past : ℕ → Vp8Packet → Stage → Stage
past n p c = record { packet = p; at = c.at + n; rest = drop n c.rest }

-- one byte is read, and sets its fields
abbrev pub taken : (ℕ → Vp8Packet → Vp8Packet) → Stage → Stage
taken f c = past 1 (f (next c) c.packet) c

-- "Fields keep old values: with X clear after a packet with I set, I still counts"
unfoldable pub with_flags : Stage → Stage
with_flags c = cond (eqb c.packet.x 1) (taken set_flags c) c

-- M clear: 7 bits, and M set: 15 bits
unfoldable pub with_picture_id : Stage → Stage
with_picture_id c =
    cond (eqb c.packet.i 1)
    (cond (ltb (next c) 128) (taken put_picture_id c) (past 2 (put_picture_id (u16_at c.rest 0 % 32768) c.packet) c)) c

unfoldable pub with_tl0 : Stage → Stage
with_tl0 c = cond (eqb c.packet.l 1) (taken put_tl0 c) c

-- T or K
unfoldable pub with_layers : Stage → Stage
with_layers c = cond (eqb c.packet.t 1 || eqb c.packet.k 1) (taken set_indices c) c

-- the fields as they are left, and the payload's place or a refusal
pub record Reading : Type 0 where
  pub packet : Vp8Packet
  pub said : Said ℕ

-- "4 on a packet of 4 bytes or more leaves the fields read so far": where no byte is left
unfoldable pub or_short : Stage → (Stage → Reading) → Reading
or_short c go = cond (ltb 0 (length c.rest)) (go c) (record { packet = c.packet; said = refuse 4 })

-- behind the picture id: three tests for a byte that is left, the last of them for the payload
unfoldable pub third : Stage → Reading
third c = or_short c (λ c'. record { packet = c'.packet; said = says c'.at })

unfoldable pub second : Stage → Reading
second c = or_short c (λ c'. third (with_layers c'))

unfoldable pub read_on : Stage → Reading
read_on c = or_short c (λ c'. second (with_tl0 c'))

-- "packets up to 65,535 bytes", "a VP8 picture id up to 32,767": else 8; under 4 bytes 4, and nothing changes
unfoldable pub depacketized : Vp8Packet → List ℕ → Reading
depacketized p s =
    cond (ltb 65535 (length s)) (record { packet = p; said = refuse 8 })
    (cond (ltb 32767 p.picture_id) (record { packet = p; said = refuse 8 })
    (cond (ltb (length s) 4) (record { packet = p; said = refuse 4 })
    (read_on (with_picture_id (with_flags (taken set_required (record { packet = p; at = 0; rest = s })))))))
