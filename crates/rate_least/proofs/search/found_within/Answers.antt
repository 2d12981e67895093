use Rattle.std.proofs.Common.{◌≡◌, ◌-◌, List, [], ◌∷◌, length, get_or, ap, subst, arith}
use Rattle.std.proofs.lemmas.List.{length-map}
use Rattle.rate_table.proofs.Vectors.{items_of}
use Rattle.rate_least.specs.declared.outcome.WidePair.{WidePair}
use Rattle.rate_least.proofs.Refused.{capped}
use Rattle.rate_least.proofs.Found.{found_here, none_within, none_ends}
use Rattle.rate_least.proofs.search.found_within.Goals as goal
use Rattle.rate_least.proofs.search.found_within.Goals.{in_default-via-in-Some+else-goal-size, in_default-via-in_default}

pub returns-in-Some-clause-some : goal.returns-in-Some-clause-some
returns-in-Some-clause-some c =
    let t = capped c.args.table.now.slices c.args.cap in
    let vs = c.in_ok-layers.layers.items in
    let k = c.in_ok-layers.ensures in
    let e = c.deref.ensures.value in
    let n : length c.deref.result.now - 1 ≡ length t.slices = omega (arith, ap length e, length-map vs (λ v. v.items), k.held.0) in
    found_here t c.args.multiplier c.args.size (items_of vs) k.held k.few (length c.deref.result.now - 1) n c.in-Some.goal
    (subst (λ l. (back : List WidePair) × (get_or (items_of l) (length c.deref.result.now - 1) [] ≡ c.in-Some.goal ∷ back)) e c.in-Some.ensures.some) c.if-goal-size.true

pub returns-in_default-clause-none : goal.returns-in_default-clause-none
returns-in_default-clause-none c =
    let t = capped c.args.table.now.slices c.args.cap in
    let vs = c.in_ok-layers.layers.items in
    let k = c.in_ok-layers.ensures in
    let e = c.deref.ensures.value in
    let n : length c.deref.result.now - 1 ≡ length t.slices = omega (arith, ap length e, length-map vs (λ v. v.items), k.held.0) in
    elim c.in_default.branch [
      | in_default-via-in-Some+else-goal-size w ↦
          none_within t c.args.multiplier c.args.size (items_of vs) k.held (length c.deref.result.now - 1) n w.in-Some.goal
          (subst (λ l. (back : List WidePair) × (get_or (items_of l) (length c.deref.result.now - 1) [] ≡ w.in-Some.goal ∷ back)) e w.in-Some.ensures.some) w.if-goal-size.false
      | in_default-via-in_default w ↦
          none_ends t c.args.multiplier c.args.size (items_of vs) k.held (length c.deref.result.now - 1) n
          (subst (λ l. get_or (items_of l) (length c.deref.result.now - 1) [] ≡ []) e w.in_default.ensures.none)
    ]
