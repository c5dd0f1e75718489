-- What a payload does, without buffers, whatever a run is: the run afterwards, what is gathered and the units handed out. Then the buffers.
-- Assumes nothing.
use Rattle.std.specs.Prelude.{Bool, true, false, cond, ◌||◌, List, [], ◌∷◌, ◌++◌, ℕ, ltb, length}
use Rattle.error.specs.Said.{Said, says, refused, refuse}
use Rattle.wire.specs.Net.{be32}
use Rattle.wire.specs.Part.{splice}

-- what a payload does
pub record Fed (Run : Type 0) : Type 0 where
  -- the run afterwards
  pub run : Run
  -- what then stands in front of the gather buffer: an end fragment's bytes are gathered too, though its run is none
  pub kept : List ℕ
  -- the units handed out
  pub handed : List (List ℕ)

module _ {Run : Type 0} where
  -- a fragment that does not end the unit: these bytes are gathered now
  abbrev pub ongoing : Run → List ℕ → Fed Run
  ongoing run bytes = record { run = run; kept = bytes; handed = [] }

  -- the last fragment: these bytes were gathered, and the unit is handed out behind its header
  abbrev pub finished : Run → List ℕ → List ℕ → Fed Run
  finished run head bytes = record { run = run; kept = bytes; handed = (head ++ bytes) ∷ [] }

-- ---- the bytes handed out

-- "Each unit follows 00 00 00 01, or a 4-byte length where `is_avc`."
abbrev pub prefix_for : Bool → ℕ → List ℕ
prefix_for false len = 0 ∷ 0 ∷ 0 ∷ 1 ∷ []
prefix_for true len = be32 len

abbrev pub prefix_of : Bool → List ℕ → List ℕ
prefix_of avc unit = prefix_for avc (length unit)

abbrev pub prefixed : Bool → List (List ℕ) → List ℕ
prefixed avc [] = []
prefixed avc (u ∷ us) = prefix_of avc u ++ (u ++ prefixed avc us)

-- ---- the buffers

-- the answer, and the output afterwards
pub record OutLaid : Type 0 where
  pub answer : Said ℕ
  pub out : List ℕ

-- "5: output buffer .. too small"; the answer is how many bytes are handed out
unfoldable pub lay_bytes : List ℕ → List ℕ → OutLaid
lay_bytes out bytes =
    cond (ltb (length out) (length bytes)) (record { answer = refuse 5; out = out })
    (record { answer = says (length bytes); out = splice out 0 bytes })

-- units, or why there are none
abbrev pub lay_units : Bool → List ℕ → Said (List (List ℕ)) → OutLaid
lay_units avc out (says units) = lay_bytes out (prefixed avc units)
lay_units avc out (refused r) = record { answer = refused r; out = out }

-- the answer, and both buffers afterwards
pub record Laid (A : Type 0) : Type 0 where
  pub answer : Said A
  pub gather : List ℕ
  pub out : List ℕ

-- "6: gather buffer too small for the fragments, or the run over 16,777,215 bytes"; by the buffer's length, and by the buffer
abbrev pub is_over : (room n : ℕ) → Bool
is_over room n = ltb room n || ltb 16777215 n

-- where a run ends that is not over
abbrev pub end_of : (room n : ℕ) → Said ℕ
end_of room n = cond (is_over room n) (refuse 6) (says n)

abbrev pub too_long : (gather kept : List ℕ) → Bool
too_long gather kept = is_over (length gather) (length kept)

-- what is gathered stays only where nothing is refused
abbrev pub gather_after : List ℕ → List ℕ → Said ℕ → List ℕ
gather_after gather kept (says n) = splice gather 0 kept
gather_after gather kept (refused r) = gather

-- the answer, and the gather buffer afterwards, where nothing is handed out
pub record GatherLaid : Type 0 where
  pub answer : Said ℕ
  pub gather : List ℕ

unfoldable pub lay_gather : List ℕ → List ℕ → GatherLaid
lay_gather gather kept =
    cond (too_long gather kept) (record { answer = refuse 6; gather = gather })
    (record { answer = says 0; gather = splice gather 0 kept })

-- these bytes are gathered and these units handed out: 6, then 5; "a refusal .. changes no buffer"
unfoldable pub lay_both : Bool → List ℕ → List ℕ → (kept : List ℕ) (handed : List (List ℕ)) → Laid ℕ
lay_both avc gather out kept handed =
    cond (too_long gather kept) (record { answer = refuse 6; gather = gather; out = out })
    (record {
      answer = (lay_bytes out (prefixed avc handed)).answer;
      gather = gather_after gather kept (lay_bytes out (prefixed avc handed)).answer;
      out = (lay_bytes out (prefixed avc handed)).out;
    })
