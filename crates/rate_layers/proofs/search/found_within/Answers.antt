use Rattle.std.proofs.Common.{◌≡◌, ◌-◌, List, [], ◌∷◌, ◌++◌, length, get_or, ap, subst, arith}
use Rattle.std.proofs.lemmas.List.{length-map}
use Rattle.rate_table.proofs.Vectors.{items_of}
use Rattle.rate_table.specs.declared.entry.Pair.{Pair}
use Rattle.rate_layers.proofs.Found.{found_here, none_within, none_ends}
use Rattle.rate_layers.proofs.search.found_within.Goals as goal
use Rattle.rate_layers.proofs.search.found_within.Goals.{in_default-via-in-Some+else-goal-error, in_default-via-in_default}

pub returns-in-Some-clause-some : goal.returns-in-Some-clause-some
returns-in-Some-clause-some c =
    let t = c.args.table.now in
    let vs = c.in_ok-layers.layers.items in
    let k = c.in_ok-layers.ensures in
    let e = c.deref.ensures.value in
    let n : length c.deref.result.now - 1 ≡ length t.slices = omega (arith, ap length e, length-map vs (λ v. v.items), k.kept.0) in
    found_here t c.args.multiplier c.args.error (items_of vs) k.kept k.few (length c.deref.result.now - 1) n c.in-Some.goal
    (subst (λ l. (front : List Pair) × (get_or (items_of l) (length c.deref.result.now - 1) [] ≡ front ++ c.in-Some.goal ∷ [])) e c.in-Some.ensures.some) c.if-goal-error.true

pub returns-in_default-clause-none : goal.returns-in_default-clause-none
returns-in_default-clause-none c =
    let t = c.args.table.now in
    let vs = c.in_ok-layers.layers.items in
    let k = c.in_ok-layers.ensures in
    let e = c.deref.ensures.value in
    let n : length c.deref.result.now - 1 ≡ length t.slices = omega (arith, ap length e, length-map vs (λ v. v.items), k.kept.0) in
    elim c.in_default.branch [
      | in_default-via-in-Some+else-goal-error w ↦
          none_within t c.args.multiplier c.args.error (items_of vs) k.kept (length c.deref.result.now - 1) n w.in-Some.goal
          (subst (λ l. (front : List Pair) × (get_or (items_of l) (length c.deref.result.now - 1) [] ≡ front ++ w.in-Some.goal ∷ [])) e w.in-Some.ensures.some) w.if-goal-error.false
      | in_default-via-in_default w ↦
          none_ends t c.args.multiplier c.args.error (items_of vs) k.kept (length c.deref.result.now - 1) n
          (subst (λ l. get_or (items_of l) (length c.deref.result.now - 1) [] ≡ []) e w.in_default.ensures.none)
    ]
