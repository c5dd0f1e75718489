-- How the answers about headers stand in their records. Assumes nothing.
use Rattle.std.specs.Prelude.{Bool, true, false, cond, ℕ}
use Rattle.error.specs.Said.{Said}
use Rattle.elements.specs.Named.{Found, absent, at}
use Rattle.header.specs.Said.{Heard, After, Listed}
use Rattle.gateway.specs.declared.rtp_header.RtpHeaderRead.{RtpHeaderRead}
use Rattle.gateway.specs.declared.rtp_header.RtpLength.{RtpLength}
use Rattle.gateway.specs.declared.rtp_extension.RtpHeaderChanged.{RtpHeaderChanged}
use Rattle.gateway.specs.declared.rtp_extension.RtpElement.{RtpElement}
use Rattle.gateway.specs.declared.rtp_extension.RtpIds.{RtpIds}
use Rattle.gateway.specs.Refused.{refused_in, flag_in, number_in}

-- the payload's place, beside the header
abbrev pub header_read_as : Heard → RtpHeaderRead
header_read_as h =
    record { refused = refused_in h.answer; at = number_in (λ n. n) h.answer; header = h.header }

-- a number of bytes
abbrev pub length_as : Said ℕ → RtpLength
length_as x = record { refused = refused_in x; bytes = number_in (λ n. n) x }

-- whether it was done, beside the header
abbrev pub header_changed_as : After → RtpHeaderChanged
header_changed_as a = record { refused = refused_in a.answer; header = a.header }

-- whether the header has an element of that id, and where its data lie
abbrev pub is_present : Found → Bool
is_present absent = false
is_present (at place len) = true

abbrev pub place_of : Found → ℕ
place_of absent = 0
place_of (at place len) = place

abbrev pub len_of : Found → ℕ
len_of absent = 0
len_of (at place len) = len

-- an element's place and length
abbrev pub element_as : Said Found → RtpElement
element_as x =
    record { refused = refused_in x; present = flag_in is_present x; at = number_in place_of x; len = number_in len_of x }

-- how many ids there are, beside them
abbrev pub ids_as : Listed → RtpIds
ids_as l = record { refused = refused_in l.answer; count = number_in (λ n. n) l.answer; ids = l.ids }

-- how a caller reads an element's record
abbrev pub found_by : RtpElement → Found
found_by e = cond e.present (at e.at e.len) absent
