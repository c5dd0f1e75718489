-- How the joiner's answers stand in their records. Assumes nothing.
use Rattle.std.specs.Prelude.{Bool, true, false, cond, ℕ}
use Rattle.error.specs.Said.{Said}
use Rattle.joiner_step.specs.Step.{Accepted, Answer, accepted, late}
use Rattle.joiner.specs.Join.{ClosingStepped}
use Rattle.gateway.specs.declared.rtp_joiner.RtpJoined.{RtpJoined}
use Rattle.gateway.specs.declared.rtp_joiner.RtpClosed.{RtpClosed}
use Rattle.gateway.specs.Refused.{refused_in, flag_in, number_in}

-- "d of 32,768 or more answers Late"
abbrev pub is_late : Answer → Bool
is_late (accepted a) = false
is_late late = true

-- a number that an accepted packet's answer says; 0 of a late one
abbrev pub of_accepted : (Accepted → ℕ) → Answer → ℕ
of_accepted of (accepted a) = of a
of_accepted of late = 0

-- what became of a packet
abbrev pub joined_as : Said Answer → RtpJoined
joined_as x =
    record {
      refused = refused_in x;
      late = flag_in is_late x;
      first = number_in (of_accepted (λ a. a.first)) x;
      count = number_in (of_accepted (λ a. a.count)) x;
      bytes = number_in (of_accepted (λ a. a.bytes)) x;
    }

-- the numbers that never came, beside the joiner
abbrev pub closed_as : ClosingStepped → RtpClosed
closed_as c =
    record {
      refused = refused_in c.answer;
      first = number_in (λ (a : Accepted). a.first) c.answer;
      count = number_in (λ (a : Accepted). a.count) c.answer;
      joiner = c.joiner;
    }

-- how a caller reads what became of a packet
abbrev pub answer_by : RtpJoined → Answer
answer_by r = cond r.late late (accepted (record { first = r.first; count = r.count; bytes = r.bytes }))
