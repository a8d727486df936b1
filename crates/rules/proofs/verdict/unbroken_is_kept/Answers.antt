use Rattle.rules.proofs.Keeping.{keeps_orders, keeps_prices, unbroken}
use Rattle.rules.proofs.verdict.unbroken_is_kept.Goals as goal

pub returns : goal.returns
returns c = λ m X Y. ((λ h. (keeps_orders m X Y h, keeps_prices m X Y h)), unbroken m X Y)
