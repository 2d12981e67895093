use Rattle.std.proofs.Common.{◌≡◌, suc, ◌+◌, ◌-◌, [], ◌∷◌, ◌++◌, length, get_or, sym, ap, ◌∙◌, subst, arith}
use Rattle.std.proofs.lemmas.List.{length-map, get_or_default}
use Rattle.rate_table.proofs.Vectors.{items_of, element}
use Rattle.rate_table.specs.Table.{Table, IndicesRise}
use Rattle.rate_table.specs.Pairs.{joined}
use Rattle.rate_layers.specs.Layers.{Rises}
use Rattle.rate_layers.specs.inner.Live.{LeadsOn, IsFirstOn, marked}
use Rattle.rate_layers.proofs.Fronts.{same_pair}
use Rattle.rate_layers.proofs.Found.{Walking, entries_at, layer_rises, walk_first, walk_on, walk_more, walk_small, walk_end}
use Rattle.rate_layers.proofs.live.walk.Goals as goal

pub loop-k-init : goal.loop-k-init
loop-k-init c = walk_first c.args.table.now c.args.goal (items_of c.args.layers.now) c.args.marks.now c.requires c.new-choice.result.items c.new-choice.ensures.items

pub first_lead-requires-clause-next : goal.first_lead-requires-clause-next
first_lead-requires-clause-next c =
    let t = c.args.table.now in
    let ls = c.args.layers.now in
    let ms = c.args.marks.now in
    let k = c.loop-k.k in
    let same : c.as_slice-slices.result.now ≡ t.slices = c.as_slice-slices.ensures.slices ∙ ap (λ (t : Table). t.slices) c.table.view_is in
    let i = length c.as_slice-slices.result.now - 1 - k in
    let s : suc i + k ≡ length t.slices = omega (arith, ap length same, c.loop-k-test.true) in
    let k1 : k + 1 ≡ suc k = omega arith in
    let el = subst (λ j. c.deref.result.now ≡ get_or (items_of ls) j []) k1 (element ls (k + 1) c.index-layers-k.result c.deref.result.now (omega (arith, s, c.requires.found.kept.0, length-map ls (λ w. w.items))) c.index-layers-k.is c.deref.ensures.value) in
    subst Rises (sym el) (layer_rises t c.requires.multiplier c.requires.error c.args.goal (items_of ls) c.requires.found (suc k) (omega (arith, s)))

pub first_lead-requires-clause-count : goal.first_lead-requires-clause-count
first_lead-requires-clause-count c =
    let t = c.args.table.now in
    let ls = c.args.layers.now in
    let ms = c.args.marks.now in
    let k = c.loop-k.k in
    let same : c.as_slice-slices.result.now ≡ t.slices = c.as_slice-slices.ensures.slices ∙ ap (λ (t : Table). t.slices) c.table.view_is in
    let i = length c.as_slice-slices.result.now - 1 - k in
    let s : suc i + k ≡ length t.slices = omega (arith, ap length same, c.loop-k-test.true) in
    let k1 : k + 1 ≡ suc k = omega arith in
    let el = subst (λ j. c.deref.result.now ≡ get_or (items_of ls) j []) k1 (element ls (k + 1) c.index-layers-k.result c.deref.result.now (omega (arith, s, c.requires.found.kept.0, length-map ls (λ w. w.items))) c.index-layers-k.is c.deref.ensures.value) in
    let em = c.index-marks-slices.is ∙ get_or_default ms i c.index-marks-slices.result [] (omega (arith, s, c.requires.count)) in
    ap length em ∙ (c.requires.each i (suc k) (omega (arith, s))).count ∙ sym (ap length el)

pub unreachable-requires : goal.unreachable-requires
unreachable-requires c =
    let t = c.args.table.now in
    let ls = c.args.layers.now in
    let ms = c.args.marks.now in
    let k = c.loop-k.k in
    let same : c.as_slice-slices.result.now ≡ t.slices = c.as_slice-slices.ensures.slices ∙ ap (λ (t : Table). t.slices) c.table.view_is in
    let i = length c.as_slice-slices.result.now - 1 - k in
    let s : suc i + k ≡ length t.slices = omega (arith, ap length same, c.loop-k-test.true) in
    let k1 : k + 1 ≡ suc k = omega arith in
    let el = subst (λ j. c.deref.result.now ≡ get_or (items_of ls) j []) k1 (element ls (k + 1) c.index-layers-k.result c.deref.result.now (omega (arith, s, c.requires.found.kept.0, length-map ls (λ w. w.items))) c.index-layers-k.is c.deref.ensures.value) in
    let em = c.index-marks-slices.is ∙ get_or_default ms i c.index-marks-slices.result [] (omega (arith, s, c.requires.count)) in
    let es = entries_at t c.as_slice-slices.result.now k c.index-slices-k.result c.entries.result.now same (omega (arith, s)) c.index-slices-k.is c.entries.ensures.entries in
    let on = walk_on t c.args.goal (items_of ls) ms c.requires k i c.loop-k.p c.loop-k.choice.items s c.loop-k.invariant in
    let on1 = subst (λ y. LeadsOn (get_or t.slices k []) (marked (get_or ms i []) y) c.loop-k.p) (sym el) on in
    let on2 = subst (λ y. LeadsOn (get_or t.slices k []) (marked y c.deref.result.now) c.loop-k.p) (sym em) on1 in
    c.in_default.ensures.none (subst (λ y. LeadsOn y (marked c.index-marks-slices.result c.deref.result.now) c.loop-k.p) (sym es) on2)

pub overflow_add-p : goal.overflow_add-p
overflow_add-p c =
    let t = c.args.table.now in
    let ls = c.args.layers.now in
    let ms = c.args.marks.now in
    let k = c.loop-k.k in
    let same : c.as_slice-slices.result.now ≡ t.slices = c.as_slice-slices.ensures.slices ∙ ap (λ (t : Table). t.slices) c.table.view_is in
    let i = length c.as_slice-slices.result.now - 1 - k in
    let s : suc i + k ≡ length t.slices = omega (arith, ap length same, c.loop-k-test.true) in
    let k1 : k + 1 ≡ suc k = omega arith in
    let el = subst (λ j. c.deref.result.now ≡ get_or (items_of ls) j []) k1 (element ls (k + 1) c.index-layers-k.result c.deref.result.now (omega (arith, s, c.requires.found.kept.0, length-map ls (λ w. w.items))) c.index-layers-k.is c.deref.ensures.value) in
    let em = c.index-marks-slices.is ∙ get_or_default ms i c.index-marks-slices.result [] (omega (arith, s, c.requires.count)) in
    let es = entries_at t c.as_slice-slices.result.now k c.index-slices-k.result c.entries.result.now same (omega (arith, s)) c.index-slices-k.is c.entries.ensures.entries in
    let p = c.loop-k.p in
    let x = c.in-Some.x in
    let f : IsFirstOn (get_or t.slices k []) (marked (get_or ms i []) (get_or (items_of ls) (suc k) [])) p x =
    subst (λ y. IsFirstOn (get_or t.slices k []) (marked (get_or ms i []) y) p x) el
    (subst (λ y. IsFirstOn (get_or t.slices k []) (marked y c.deref.result.now) p x) em
    (subst (λ y. IsFirstOn y (marked c.index-marks-slices.result c.deref.result.now) p x) es c.in-Some.ensures.some)) in
    let w = walk_small t c.args.goal (items_of ls) ms c.requires i (suc k) (joined p x) (omega arith) f.leads in
    omega (arith, w.0, c.from.ensures)

pub overflow_add-p-in-loop-k : goal.overflow_add-p-in-loop-k
overflow_add-p-in-loop-k c =
    let t = c.args.table.now in
    let ls = c.args.layers.now in
    let ms = c.args.marks.now in
    let k = c.loop-k.k in
    let same : c.as_slice-slices.result.now ≡ t.slices = c.as_slice-slices.ensures.slices ∙ ap (λ (t : Table). t.slices) c.table.view_is in
    let i = length c.as_slice-slices.result.now - 1 - k in
    let s : suc i + k ≡ length t.slices = omega (arith, ap length same, c.loop-k-test.true) in
    let k1 : k + 1 ≡ suc k = omega arith in
    let el = subst (λ j. c.deref.result.now ≡ get_or (items_of ls) j []) k1 (element ls (k + 1) c.index-layers-k.result c.deref.result.now (omega (arith, s, c.requires.found.kept.0, length-map ls (λ w. w.items))) c.index-layers-k.is c.deref.ensures.value) in
    let em = c.index-marks-slices.is ∙ get_or_default ms i c.index-marks-slices.result [] (omega (arith, s, c.requires.count)) in
    let es = entries_at t c.as_slice-slices.result.now k c.index-slices-k.result c.entries.result.now same (omega (arith, s)) c.index-slices-k.is c.entries.ensures.entries in
    let p = c.loop-k.p in
    let x = c.in-Some.x in
    let f : IsFirstOn (get_or t.slices k []) (marked (get_or ms i []) (get_or (items_of ls) (suc k) [])) p x =
    subst (λ y. IsFirstOn (get_or t.slices k []) (marked (get_or ms i []) y) p x) el
    (subst (λ y. IsFirstOn (get_or t.slices k []) (marked y c.deref.result.now) p x) em
    (subst (λ y. IsFirstOn y (marked c.index-marks-slices.result c.deref.result.now) p x) es c.in-Some.ensures.some)) in
    let w = walk_small t c.args.goal (items_of ls) ms c.requires i (suc k) (joined p x) (omega arith) f.leads in
    omega (arith, w.1)

pub loop-k-preserved : goal.loop-k-preserved
loop-k-preserved c =
    let t = c.args.table.now in
    let ls = c.args.layers.now in
    let ms = c.args.marks.now in
    let k = c.loop-k.k in
    let same : c.as_slice-slices.result.now ≡ t.slices = c.as_slice-slices.ensures.slices ∙ ap (λ (t : Table). t.slices) c.table.view_is in
    let i = length c.as_slice-slices.result.now - 1 - k in
    let s : suc i + k ≡ length t.slices = omega (arith, ap length same, c.loop-k-test.true) in
    let k1 : k + 1 ≡ suc k = omega arith in
    let el = subst (λ j. c.deref.result.now ≡ get_or (items_of ls) j []) k1 (element ls (k + 1) c.index-layers-k.result c.deref.result.now (omega (arith, s, c.requires.found.kept.0, length-map ls (λ w. w.items))) c.index-layers-k.is c.deref.ensures.value) in
    let em = c.index-marks-slices.is ∙ get_or_default ms i c.index-marks-slices.result [] (omega (arith, s, c.requires.count)) in
    let es = entries_at t c.as_slice-slices.result.now k c.index-slices-k.result c.entries.result.now same (omega (arith, s)) c.index-slices-k.is c.entries.ensures.entries in
    let p = c.loop-k.p in
    let x = c.in-Some.x in
    let f : IsFirstOn (get_or t.slices k []) (marked (get_or ms i []) (get_or (items_of ls) (suc k) [])) p x =
    subst (λ y. IsFirstOn (get_or t.slices k []) (marked (get_or ms i []) y) p x) el
    (subst (λ y. IsFirstOn (get_or t.slices k []) (marked y c.deref.result.now) p x) em
    (subst (λ y. IsFirstOn y (marked c.index-marks-slices.result c.deref.result.now) p x) es c.in-Some.ensures.some)) in
    let rise = subst IndicesRise (sym c.entries.ensures.entries ∙ es) c.entries.ensures.slice.rises in
    let w = walk_more t c.args.goal (items_of ls) ms c.requires k i p x c.loop-k.choice.items s rise c.loop-k.invariant f in
    let q = same_pair (joined p x) (record { size = p.size + c.from.result; error = p.error + x.error }) (omega (arith, c.from.ensures)) (omega arith) in
    let w1 = subst (λ j. Walking t c.args.goal (items_of ls) ms j (joined p x) (c.loop-k.choice.items ++ x.index ∷ [])) (sym k1) w in
    let w2 = subst (λ y. Walking t c.args.goal (items_of ls) ms (k + 1) y (c.loop-k.choice.items ++ x.index ∷ [])) q w1 in
    subst (λ l. Walking t c.args.goal (items_of ls) ms (k + 1) (record { size = p.size + c.from.result; error = p.error + x.error }) l) (sym c.in_ok-push.ensures.items) w2

pub returns : goal.returns
returns c =
    let same : c.as_slice-slices.result.now ≡ c.args.table.now.slices = c.as_slice-slices.ensures.slices ∙ ap (λ (t : Table). t.slices) c.table.view_is in
    walk_end c.args.table.now c.args.goal (items_of c.args.layers.now) c.args.marks.now c.requires c.loop-k.k c.loop-k.p c.loop-k.choice.items (omega (arith, ap length same, c.loop-k-test.false)) c.loop-k.invariant
