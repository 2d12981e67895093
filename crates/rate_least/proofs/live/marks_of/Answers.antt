use Rattle.std.proofs.Common.{◌≡◌, suc, ◌+◌, ◌-◌, ◌<◌, [], ◌∷◌, ◌++◌, false, true, replicate, length, get_or, refl, sym, ap, ◌∙◌, subst, arith}
use Rattle.std.proofs.lemmas.List.{length-map}
use Rattle.rate_table.proofs.Vectors.{items_of, element}
use Rattle.rate_table.specs.Table.{Table}
use Rattle.rate_least.specs.Layers.{Rises}
use Rattle.rate_least.proofs.Found.{MarkedFrom, marks_push, entries_at, marks_first, marks_last, marks_more, marks_end, layer_rises}
use Rattle.rate_least.proofs.live.marks_of.Goals as goal

pub loop-k-init : goal.loop-k-init
loop-k-init c =
    let t = c.args.table.now in
    let r = c.requires in
    let ls = c.args.layers.now in
    let same : c.as_slice-slices.result.now ≡ t.slices = c.as_slice-slices.ensures.slices ∙ ap (λ (t : Table). t.slices) c.table.view_is in
    let n : length t.slices ≡ length c.as_slice-slices.result.now = sym (ap length same) in
    let v = c.in_ok-first_marked.field-0 in
    let e : items_of c.push.new.self.items ≡ v.items ∷ [] = ap items_of c.in_ok-push.ensures.items ∙ ap (λ l. items_of (l ++ v ∷ [])) c.new-marks.ensures.items in
    let l : length t.slices < length ls = omega (arith, length-map ls (λ w. w.items), r.3.kept.0) in
    let at = element ls (length c.as_slice-slices.result.now) c.index-layers-slices.result c.index-layers-slices.result.items (omega (arith, n, l)) c.index-layers-slices.is refl in
    let at' = subst (λ i. c.index-layers-slices.result.items ≡ get_or (items_of ls) i []) (sym n) at in
    let count : c.len.result ≡ length (get_or (items_of ls) (length t.slices) []) = omega (arith, c.len.ensures, ap length at') in
    let is : v.items ≡ true ∷ replicate (length (get_or (items_of ls) (length t.slices) []) - 1) false = c.in_ok-first_marked.ensures ∙ ap (λ k. true ∷ replicate (k - 1) false) count in
    record {
      within = omega arith;
      marks = subst (λ k. MarkedFrom t.slices c.args.goal (items_of ls) (items_of c.push.new.self.items) k) n
          (marks_first (record { slices = t.slices; cap = r.0 }) r.1 r.2 c.args.goal (items_of ls) r.3 (items_of c.push.new.self.items) v.items e is);
    }

pub marks_before-requires-clause-layer : goal.marks_before-requires-clause-layer
marks_before-requires-clause-layer c =
    let r = c.requires in
    let ls = c.args.layers.now in
    let k = c.loop-k.k in
    let within = c.loop-k.invariant.within in
    let n : k - 1 < length ls = omega (arith, length-map ls (λ w. w.items), r.3.kept.0, within, c.loop-k-test.true) in
    let el = element ls (k - 1) c.index-layers-k.result c.deref.result.now n c.index-layers-k.is c.deref.ensures.value in
    subst Rises (sym el) (layer_rises (record { slices = c.args.table.now.slices; cap = r.0 }) r.1 r.2 c.args.goal (items_of ls) r.3 (k - 1) (omega (arith, within)))

pub marks_before-requires-clause-count : goal.marks_before-requires-clause-count
marks_before-requires-clause-count c =
    let t = c.args.table.now in
    let r = c.requires in
    let ls = c.args.layers.now in
    let ms = c.loop-k.marks.items in
    let i = c.loop-k.invariant in
    let k = c.loop-k.k in
    let m = length-map ms (λ w. w.items) in
    let s : k ≡ suc (k - 1) = omega (arith, c.loop-k-test.true) in
    let s' : k - 1 + 1 ≡ suc (k - 1) = omega arith in
    let a = subst (λ j. MarkedFrom t.slices c.args.goal (items_of ls) (items_of ms) j) s i.marks in
    let n : k - 1 + 1 < length ls = omega (arith, length-map ls (λ w. w.items), r.3.kept.0, i.within, c.loop-k-test.true) in
    let en = subst (λ j. c.deref-in-loop-k.result.now ≡ get_or (items_of ls) j []) s' (element ls (k - 1 + 1) c.index-layers-k-in-loop-k.result c.deref-in-loop-k.result.now n c.index-layers-k-in-loop-k.is c.deref-in-loop-k.ensures.value) in
    let q : c.len-in-loop-k.result - 1 ≡ length (items_of ms) - 1 = omega (arith, c.len-in-loop-k.ensures, m) in
    let n' : c.len-in-loop-k.result - 1 < length ms = omega (arith, c.len-in-loop-k.ensures, m, i.within, i.marks.count) in
    let em = subst (λ j. c.deref-in-loop-k-2.result.now ≡ get_or (items_of ms) j []) q (element ms (c.len-in-loop-k.result - 1) c.index.result.now c.deref-in-loop-k-2.result.now n' c.index.ensures c.deref-in-loop-k-2.ensures.value) in
    ap length em ∙ (marks_last (record { slices = t.slices; cap = r.0 }) r.1 r.2 c.args.goal (items_of ls) r.3 (items_of ms) (k - 1) (omega (arith, i.within, c.loop-k-test.true)) a).count ∙ sym (ap length en)

pub loop-k-preserved : goal.loop-k-preserved
loop-k-preserved c =
    let t = c.args.table.now in
    let r = c.requires in
    let ls = c.args.layers.now in
    let ms = c.loop-k.marks.items in
    let i = c.loop-k.invariant in
    let k = c.loop-k.k in
    let m = length-map ms (λ w. w.items) in
    let m' = length-map ls (λ w. w.items) in
    let s : k ≡ suc (k - 1) = omega (arith, c.loop-k-test.true) in
    let s' : k - 1 + 1 ≡ suc (k - 1) = omega arith in
    let a = subst (λ j. MarkedFrom t.slices c.args.goal (items_of ls) (items_of ms) j) s i.marks in
    let lt : k - 1 < length t.slices = omega (arith, i.within, c.loop-k-test.true) in
    let el = element ls (k - 1) c.index-layers-k.result c.deref.result.now (omega (arith, m', r.3.kept.0, lt)) c.index-layers-k.is c.deref.ensures.value in
    let en = subst (λ j. c.deref-in-loop-k.result.now ≡ get_or (items_of ls) j []) s' (element ls (k - 1 + 1) c.index-layers-k-in-loop-k.result c.deref-in-loop-k.result.now (omega (arith, m', r.3.kept.0, lt)) c.index-layers-k-in-loop-k.is c.deref-in-loop-k.ensures.value) in
    let q : c.len-in-loop-k.result - 1 ≡ length (items_of ms) - 1 = omega (arith, c.len-in-loop-k.ensures, m) in
    let n' : c.len-in-loop-k.result - 1 < length ms = omega (arith, c.len-in-loop-k.ensures, m, i.within, i.marks.count) in
    let em = subst (λ j. c.deref-in-loop-k-2.result.now ≡ get_or (items_of ms) j []) q (element ms (c.len-in-loop-k.result - 1) c.index.result.now c.deref-in-loop-k-2.result.now n' c.index.ensures c.deref-in-loop-k-2.ensures.value) in
    let same : c.as_slice-slices.result.now ≡ t.slices = c.as_slice-slices.ensures.slices ∙ ap (λ (t : Table). t.slices) c.table.view_is in
    let es = entries_at t.slices c.as_slice-slices.result.now (k - 1) c.index-slices-k.result c.entries.result.now same lt c.index-slices-k.is c.entries.ensures.entries in
    let e : items_of c.push-in-loop-k.new.self.items ≡ items_of ms ++ c.in_ok-before.before.items ∷ [] = ap items_of c.in_ok-push-2.ensures.items ∙ marks_push ms c.in_ok-before.before in
    record {
      within = omega (arith, i.within);
      marks = subst (λ l. MarkedFrom t.slices c.args.goal (items_of ls) l (k - 1)) (sym e)
          (marks_more (record { slices = t.slices; cap = r.0 }) r.1 r.2 c.args.goal (items_of ls) r.3 (items_of ms) (k - 1) c.entries.result.now c.deref-in-loop-k.result.now c.deref.result.now c.deref-in-loop-k-2.result.now c.in_ok-before.before.items a lt es en em el c.in_ok-before.ensures);
    }

pub returns : goal.returns
returns c =
    let r = c.requires in
    marks_end (record { slices = c.args.table.now.slices; cap = r.0 }) r.1 r.2 c.args.goal (items_of c.args.layers.now) r.3 (items_of c.loop-k.marks.items) c.loop-k.k c.loop-k-test.false c.loop-k.invariant.marks
