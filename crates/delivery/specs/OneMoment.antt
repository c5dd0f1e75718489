-- "A run belongs to one moment" (E4), whatever arrives, from however many senders: where what is handed out comes from. Assumes nothing.
use Rattle.std.specs.Prelude.{◌≡◌, Bool, false, ◌||◌, List, [], ◌∷◌, ◌++◌, map, ◌⊎◌, ℕ}
use Rattle.error.specs.Said.{says}
use Rattle.wire.specs.Each.{Each}
use Rattle.wire.specs.Part.{part}
use Rattle.packet.specs.Read.{PacketReading, read_packet}
use Rattle.nal.specs.Fed.{prefixed}
use Rattle.sequence.specs.Number.{distance_of, next_of}
use Rattle.joiner_step.specs.Run.{Units}
use Rattle.joiner_step.specs.Play.{handed_out}
use Rattle.joiner_feed.specs.Content.{Fragment, Content, whole, start, middle, end, topped}
use Rattle.joiner_feed.specs.H264.{check}
use Rattle.delivery.specs.Show.{Show}
use Rattle.delivery.specs.Play.{Machine, played_on}

-- it is one of these
abbrev pub Among : List (List ℕ) → List ℕ → Type 0
Among [] packet = ⊥
Among (p ∷ ps) packet = (packet ≡ p) ⊎ Among ps packet

-- ---- the fragments of a unit, the last of them first

-- what they hold behind the unit's header, and whether one of them has its top bit set
abbrev pub parts_in : List Fragment → List ℕ
parts_in [] = []
parts_in (f ∷ fs) = parts_in fs ++ f.part

abbrev pub any_in : List Fragment → Bool
any_in [] = false
any_in (f ∷ fs) = any_in fs || f.marked

-- of all that came, and of this source
module _ (came : List (List ℕ)) (source : ℕ) where
  -- one of the packets that came bears this number and timestamp, and holds this
  pub record Bears (number time : ℕ) (x : Content) : Type 0 where
    pub packet : List ℕ
    pub there : Among came packet
    pub reading : PacketReading
    pub read : read_packet packet ≡ says reading
    pub of_source : reading.fields.source ≡ source
    pub of_number : reading.fields.number ≡ number
    pub of_time : reading.fields.time ≡ time
    pub holds : check (part packet reading.payload.place reading.payload.len) ≡ says x

  -- a start fragment, and others that each follow the one before "without a gap", all of one time; `next` is the number behind the last
  abbrev pub Begun : (time next : ℕ) → List Fragment → Type 0
  Begun time next [] = ⊥
  Begun time next (f ∷ []) = (number : ℕ) × Bears number time (start f) × (next ≡ next_of number)
  Begun time next (f ∷ g ∷ fs) =
      (number before : ℕ) × Bears number time (middle f) × (next ≡ next_of number) × (distance_of number before ≡ 0) × Begun time before (g ∷ fs)

  -- their packets
  abbrev pub packets_of : (time next : ℕ) (fs : List Fragment) → Begun time next fs → List (List ℕ)
  packets_of time next [] w = []
  packets_of time next (f ∷ []) w = w.1.packet ∷ []
  packets_of time next (f ∷ g ∷ fs) w = w.2.packet ∷ packets_of time w.1 (g ∷ fs) w.5

  -- ---- what is handed out

  -- the units of one packet
  pub record OfOne (units : Units) : Type 0 where
    pub number : ℕ
    pub time : ℕ
    pub bears : Bears number time (whole units)

  -- a unit in fragments, one after the other, all of one time: "All fragments of a unit carry one RTP timestamp"
  pub record OfMany (units : Units) : Type 0 where
    pub time : ℕ
    -- the last one's number, and the one behind the others
    pub number : ℕ
    pub before : ℕ
    -- the unit's header as the last one has it
    pub head : List ℕ
    pub last : Fragment
    pub others : List Fragment
    pub ends : Bears number time (end head last)
    pub follows : distance_of number before ≡ 0
    pub begun : Begun time before others
    pub is : units ≡ (topped (any_in (last ∷ others)) head ++ parts_in (last ∷ others)) ∷ []

  abbrev pub Origin : Units → Type 0
  Origin units = OfOne units ⊎ OfMany units

  -- ---- whose it is, where several send

  -- `sender` says who sent a packet: those that came with one timestamp are of one sender
  abbrev pub TimesApart : {A : Type 0} → (sender : List ℕ → A) → Type 0
  TimesApart sender =
      (number other time : ℕ) (x y : Content) (p : Bears number time x) (q : Bears other time y) → sender p.packet ≡ sender q.packet

  -- all fragments of the unit are of its last one's sender
  abbrev pub OneSender : {A : Type 0} → (sender : List ℕ → A) (units : Units) → OfMany units → Type 0
  OneSender sender units u = Each (λ (p : List ℕ). sender p ≡ sender u.ends.packet) (packets_of u.time u.before u.others u.begun)

-- the joiner m tears nothing: whatever comes, each group of units that it hands out behind its prefixes is of one packet, or of one unit's fragments
pub record Untorn (avc : Bool) (m : Machine) (w : Show) (came : List (List ℕ)) : Type 0 where
  pub groups : List Units
  pub hands_out : handed_out (played_on m w came) ≡ map (prefixed avc) groups
  pub origins : Each (Origin came w.source) groups

abbrev pub OneMoment : Bool → Machine → Type 0
OneMoment avc m = (w : Show) (came : List (List ℕ)) → Untorn avc m w came
