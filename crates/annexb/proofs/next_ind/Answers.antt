-- The tests are those of `next_ind`; inside them the search is `next_code`.
use mathlib.Core.Path.{sym, ap, ◌∙◌}
use borrow.Author.Tests.{lt-ltb, le-ltb}
use Rattle.error.specs.Said.{says}
use Rattle.annexb.specs.Search.{next_ind}
use Rattle.annexb.proofs.next_ind.Goals as goal
use Rattle.annexb.proofs.next_ind.Goals.{then-frame-gt16777216-via-then-frame-gt16777216, then-frame-gt16777216-via-else-frame-gt16777216+then-frame-start}

pub returns-then-frame-gt16777216 : goal.returns-then-frame-gt16777216
unfolding next_ind
returns-then-frame-gt16777216 c =
    elim c.then-frame-gt16777216.branch [ then-frame-gt16777216-via-then-frame-gt16777216 w ↦ sym (rw (lt-ltb 16777216 _ w.if-frame-gt16777216.true)) | then-frame-gt16777216-via-else-frame-gt16777216+then-frame-start w ↦ sym (rw (le-ltb 16777216 _ w.if-frame-gt16777216.false, lt-ltb _ _ w.if-frame-start.true)) ]

pub returns : goal.returns
unfolding next_ind
returns c =
    ap says c.next_code.ensures
    ∙ sym (rw (le-ltb 16777216 _ c.if-frame-gt16777216.false, le-ltb _ _ c.if-frame-start.false))
