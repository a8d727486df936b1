use Rattle.std.proofs.Common.{◌≡◌, true, pos, sym, refl, subst}
use lib.Signed.{le_z}
use Rattle.market.specs.View.{closed_of}
use Rattle.console.specs.declared.held.Held.{Held}
use Rattle.console.specs.Clears.{Kept}
use Rattle.console.specs.Law.{sized}
use Rattle.console.proofs.Idle.{default_idle, idle_keeps, idle_sized}
use Rattle.console.proofs.state.Console.closing.Goals as goal

pub invariant_of-result : goal.invariant_of-result
invariant_of-result c =
    let d = c.default.ensures in
    let e = sym (default_idle c.default.result d.0.long d.0.at d.1.0 d.1.1) in
    let m = closed_of c.close.result in record {
      rivals = λ r. refl;
      prices = λ r. refl;
      kept = subst (λ (h : Held). ∥ Kept m h ∥₁) e ∣ idle_keeps m ∣₁;
      fair = λ v l. subst (λ (h : Held). sized h v ≡ true) e (idle_sized v);
      cheap = subst (λ (h : Held). le_z h.cost (pos 5000000000000000) ≡ true) e refl;
    }

pub returns : goal.returns
returns c = let d = c.default.ensures in let e = default_idle c.default.result d.0.long d.0.at d.1.0 d.1.1 in cc
