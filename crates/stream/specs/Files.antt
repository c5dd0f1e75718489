-- The files that a program's arguments name. Assumes nothing.
use Rattle.std.specs.Prelude.{◌≡◌, Result, Ok, Err, MatchResult}
use Rattle.stream.specs.declared.files.Files.{Files}
use Rattle.stream.specs.declared.files.Output.{Output}
use Rattle.stream.specs.declared.files.Output.TheVariants.{Stdout, Stderr, File}
use Rattle.stream.specs.declared.status.Status.{Status}
use Rattle.stream.specs.declared.status.Status.TheVariants.{Failed}

-- wrong arguments are the answer as they are, without a file; right ones come back beside both files, or one of these is not opened
abbrev pub OpenedFor : {A : Type 0} → Result A Status → Result (A × Files) Status → Type 0
OpenedFor (Err status) r = r ≡ Err status
OpenedFor (Ok others) r = MatchResult r (λ opened. opened.0 ≡ others) (λ status. status ≡ Failed)

-- where the account goes: to standard error where standard output has the data
abbrev pub account_to : Output → Output
account_to Stdout = Stderr
account_to Stderr = Stdout
account_to (File f) = Stdout
