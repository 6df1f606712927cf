use Rattle.std.proofs.Common.{rules}
use Rattle.form.proofs.Answers.{form_not, form_counted, masks_not, masks_found}
use Rattle.form.proofs.find_masks.Goals as goal

pub returns-in-Some : goal.returns-in-Some
returns-in-Some c = search (rules, form_counted, masks_found)

pub returns-in-None : goal.returns-in-None
returns-in-None c = search (rules, form_not, masks_not)
