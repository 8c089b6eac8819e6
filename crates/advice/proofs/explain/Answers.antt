-- `explain` meets its contract: by what was read, and by what was written of it.
use borrow.Author.Tests.{leb-true}
use mathlib.Core.Path.{refl, sym, ap, ◌∙◌}
use Rattle.std.proofs.Common.{Ok, Err}
use Rattle.text.specs.Bytes.{bytes}
use Rattle.template.specs.Fill.{room_of}
use Rattle.advice.proofs.Saying.{explained}
use Rattle.advice.proofs.explain.Goals as goal

pub fill-requires : goal.fill-requires
unfolding room_of
fill-requires c = leb-true _ 1024 refl

pub fill-requires-in-Err-NotACard : goal.fill-requires-in-Err-NotACard
unfolding room_of
fill-requires-in-Err-NotACard c = leb-true _ 1024 refl

pub returns-in-Ok-Card : goal.returns-in-Ok-Card
returns-in-Ok-Card c =
    explained _ (sym c.read.ensures ∙ c.in-Ok-Card.is ∙ ap Ok c.in-Ok-Card.field-0-is) c.run_text.ensures

pub returns-in-Ok-Check : goal.returns-in-Ok-Check
returns-in-Ok-Check c =
    explained _ (sym c.read.ensures ∙ c.in-Ok-Check.is ∙ ap Ok c.in-Ok-Check.field-0-is) c.check_text.ensures

pub returns-in-Err-Damaged : goal.returns-in-Err-Damaged
unfolding bytes
returns-in-Err-Damaged c =
    explained _ (sym c.read.ensures ∙ c.in-Err-Damaged.is ∙ ap Err c.in-Err-Damaged.field-0-is) c.fill.ensures

pub returns-in-Err-NotACard : goal.returns-in-Err-NotACard
unfolding bytes
returns-in-Err-NotACard c =
    explained _ (sym c.read.ensures ∙ c.in-Err-NotACard.is ∙ ap Err c.in-Err-NotACard.field-0-is) c.fill-in-Err-NotACard.ensures
