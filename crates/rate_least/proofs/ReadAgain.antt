-- A certificate that is written is read as that certificate.
use Rattle.std.proofs.Common.{◌≡◌, ℕ, suc, ◌+◌, ◌^◌, ◌<◌, ◌≤◌, List, [], ◌∷◌, ◌++◌, length, refl, sym, ap, ◌∙◌, arith, length-append, append_assoc}
use Rattle.std.proofs.lemmas.List.{append-nil}
use Rattle.std.specs.Int.{w64, to_be_bytes}
use Rattle.std.specs.List.{flat_map, All, sum_by}
use Rattle.std.proofs.lemmas.List.Concat.{flat_map-cons}
use Rattle.std.proofs.lemmas.List.Sums.{sum_by-cons}
use Rattle.std.proofs.lemmas.List.Elements.{All-head, All-tail}
use Rattle.std.proofs.lemmas.Bool.{le-ltb, lt-leb}
use Rattle.rate_table.specs.Table.{Table}
use Rattle.rate_table.specs.Body.{body_bytes}
use Rattle.rate_table.proofs.ReadAgain.{body-again, indices-again}
use Rattle.rate_cert.specs.Layers.{most_pairs}
use Rattle.rate_table.specs.Nested.{in_proof}
use Rattle.rate_table.specs.declared.fault.ProofKind.TheVariants.{ProofShort}
use Rattle.pw_outside.proofs.Steps.{bind-step, refuse-step, found, same_rest}
use Rattle.rate_table.proofs.Here.{byte-here, four-here, eight-here}
use Rattle.rate_least.specs.declared.outcome.WidePair.{WidePair}
use Rattle.rate_least.specs.Records.{Printed, Said, fits, none, Certificate}
use Rattle.rate_least.specs.Files.{pair_bytes, layer_bytes, sums_bytes, fit_bytes, said_bytes, cert_bytes, IsPair, IsPrintable, CanBeSaid, HasWidths, AreWide, IsWritten, size_at, pair_at, pairs_at, layer_at, layers_at, fit_at, none_at, verdict_at, said_at, cert_at, certified}
use Rattle.rate_least.specs.Laws.{CertificateIsReadAgain}

size-again : (n place : ℕ) (behind : List ℕ) → n < 2 ^ 34 → size_at (record { place = place; bytes = to_be_bytes w64 n ++ behind }) ≡ found n (place + 8) behind
unfolding size_at
size-again n place behind small =
    bind-step _ _ (eight-here ProofShort n place behind (omega (arith, small)))
    ∙ refuse-step _ _ _ _ (lt-leb (2 ^ 34) n small)

pair-again : (p : WidePair) (place : ℕ) (behind : List ℕ) → IsPair p → pair_at (record { place = place; bytes = pair_bytes p ++ behind }) ≡ found p (place + 16) behind
unfolding pair_at pair_bytes
pair-again p place behind is =
    bind-step _ _ (size-again p.size place (to_be_bytes w64 p.error ++ behind) is.0)
    ∙ bind-step _ _ (eight-here ProofShort p.error (place + 8) behind is.1)
    ∙ same_rest p _ _ behind (omega arith)

length-pair : (p : WidePair) → length (pair_bytes p) ≡ 16
unfolding pair_bytes
length-pair p = refl

pairs-again : (ps : List WidePair) (place : ℕ) (behind : List ℕ) → All IsPair ps
    → pairs_at (length ps) (record { place = place; bytes = flat_map pair_bytes ps ++ behind }) ≡ found ps (place + length (flat_map pair_bytes ps)) behind
unfolding pairs_at
pairs-again [] place behind are = same_rest [] _ _ behind (omega arith)
pairs-again (p ∷ ps) place behind are =
    let split : flat_map pair_bytes (p ∷ ps) ++ behind ≡ pair_bytes p ++ (flat_map pair_bytes ps ++ behind) =
    ap (λ l. l ++ behind) (flat_map-cons pair_bytes p ps) ∙ append_assoc (pair_bytes p) (flat_map pair_bytes ps) behind in
    let long : place + 16 + length (flat_map pair_bytes ps) ≡ place + length (flat_map pair_bytes (p ∷ ps)) =
    omega (arith, ap length (flat_map-cons pair_bytes p ps), length-append (pair_bytes p) (flat_map pair_bytes ps), length-pair p) in
    ap (λ l. pairs_at (length (p ∷ ps)) (record { place = place; bytes = l })) split
    ∙ bind-step _ _ (pair-again p place (flat_map pair_bytes ps ++ behind) (All-head IsPair p ps are))
    ∙ bind-step _ _ (pairs-again ps (place + 16) behind (All-tail IsPair p ps are))
    ∙ same_rest (p ∷ ps) _ _ behind long

layer-again : (held : ℕ) (layer : List WidePair) (place : ℕ) (behind : List ℕ) → held + length layer ≤ most_pairs → All IsPair layer
    → layer_at held (record { place = place; bytes = layer_bytes layer ++ behind }) ≡ found layer (place + length (layer_bytes layer)) behind
unfolding layer_at layer_bytes
layer-again held layer place behind few are =
    bind-step _ _ (four-here ProofShort (length layer) place (flat_map pair_bytes layer ++ behind) (omega (arith, few)))
    ∙ refuse-step _ _ _ _ (le-ltb most_pairs (held + length layer) few)
    ∙ pairs-again layer (place + 4) behind are
    ∙ same_rest layer _ _ behind (omega arith)

layers-again : (held : ℕ) (layers : List (List WidePair)) (place : ℕ) (behind : List ℕ) → held + sum_by length layers ≤ most_pairs → All (λ layer. All IsPair layer) layers
    → layers_at (length layers) held (record { place = place; bytes = flat_map layer_bytes layers ++ behind }) ≡ found layers (place + length (flat_map layer_bytes layers)) behind
unfolding layers_at
layers-again held [] place behind few are = same_rest [] _ _ behind (omega arith)
layers-again held (l ∷ ls) place behind few are =
    let split : flat_map layer_bytes (l ∷ ls) ++ behind ≡ layer_bytes l ++ (flat_map layer_bytes ls ++ behind) =
    ap (λ b. b ++ behind) (flat_map-cons layer_bytes l ls) ∙ append_assoc (layer_bytes l) (flat_map layer_bytes ls) behind in
    let long : place + length (layer_bytes l) + length (flat_map layer_bytes ls) ≡ place + length (flat_map layer_bytes (l ∷ ls)) =
    omega (arith, ap length (flat_map-cons layer_bytes l ls), length-append (layer_bytes l) (flat_map layer_bytes ls)) in
    let sums = sum_by-cons length l ls in
    ap (λ b. layers_at (length (l ∷ ls)) held (record { place = place; bytes = b })) split
    ∙ bind-step _ _ (layer-again held l place (flat_map layer_bytes ls ++ behind) (omega (arith, few, sums)) (All-head (λ layer. All IsPair layer) l ls are))
    ∙ bind-step _ _ (layers-again (held + length l) ls (place + length (layer_bytes l)) behind (omega (arith, few, sums)) (All-tail (λ layer. All IsPair layer) l ls are))
    ∙ same_rest (l ∷ ls) _ _ behind long

fit-again : (t : Table) (r : Printed) (place : ℕ) (behind : List ℕ) → IsPrintable t r → HasWidths r
    → fit_at (length t.slices) (record { place = place; bytes = fit_bytes r ++ behind }) ≡ found (fits r) (place + length (fit_bytes r)) behind
unfolding fit_at fit_bytes
fit-again t r place behind is wide =
    let layers = flat_map layer_bytes r.layers in
    let c = length r.choice in
    let split : (r.choice ++ (sums_bytes r.size r.error r.multiplier ++ layers)) ++ behind
    ≡ r.choice ++ (to_be_bytes w64 r.size ++ (to_be_bytes w64 r.error ++ (to_be_bytes w64 r.multiplier ++ (layers ++ behind)))) =
    append_assoc r.choice (sums_bytes r.size r.error r.multiplier ++ layers) behind in
    ap (λ n. fit_at n (record { place = place; bytes = fit_bytes r ++ behind })) (sym is.counts.0)
    ∙ ap (λ l. fit_at c (record { place = place; bytes = l })) split
    ∙ bind-step _ _ (indices-again r.choice place (to_be_bytes w64 r.size ++ (to_be_bytes w64 r.error ++ (to_be_bytes w64 r.multiplier ++ (layers ++ behind)))))
    ∙ bind-step _ _ (size-again r.size (place + c) (to_be_bytes w64 r.error ++ (to_be_bytes w64 r.multiplier ++ (layers ++ behind))) wide.size)
    ∙ bind-step _ _ (eight-here ProofShort r.error (place + c + 8) (to_be_bytes w64 r.multiplier ++ (layers ++ behind)) wide.error)
    ∙ bind-step _ _ (eight-here ProofShort r.multiplier (place + c + 8 + 8) (layers ++ behind) wide.multiplier)
    ∙ bind-step _ _ (ap (λ n. layers_at n 0 (record { place = place + c + 8 + 8 + 8; bytes = layers ++ behind })) (ap suc is.counts.0 ∙ sym is.counts.1)
    ∙ layers-again 0 r.layers (place + c + 8 + 8 + 8) behind (omega (arith, is.few)) wide.pairs)
    ∙ same_rest (fits r) _ _ behind (omega (arith, length-append r.choice (sums_bytes r.size r.error r.multiplier ++ layers)))

said-again : (t : Table) (s : Said) (place : ℕ) (behind : List ℕ) → CanBeSaid t s → AreWide s
    → said_at (length t.slices) (record { place = place; bytes = said_bytes s ++ behind }) ≡ found s (place + length (said_bytes s)) behind
unfolding said_at verdict_at none_at said_bytes
said-again t (fits p) place behind c wide =
    bind-step _ _ (byte-here ProofShort 1 place (fit_bytes p ++ behind))
    ∙ bind-step _ _ refl
    ∙ fit-again t p (place + 1) behind c wide
    ∙ same_rest (fits p) _ _ behind (omega arith)
said-again t (none n) place behind c wide =
    bind-step _ _ (byte-here ProofShort 0 place (to_be_bytes w64 n ++ behind))
    ∙ bind-step _ _ refl
    ∙ bind-step _ _ (eight-here ProofShort n (place + 1) behind wide)
    ∙ same_rest (none n) _ _ behind (omega arith)

cert-again : (c : Certificate) (place : ℕ) → IsWritten c → cert_at (record { place = place; bytes = cert_bytes c }) ≡ found c (place + length (cert_bytes c)) []
unfolding cert_at cert_bytes
cert-again c place is =
    let body = body_bytes c.table in
    let said = said_bytes c.said in
    bind-step _ _ (four-here ProofShort 0x50574C43 place (1 ∷ (to_be_bytes w64 c.cap ++ (body ++ said))) (omega arith))
    ∙ bind-step _ _ refl
    ∙ bind-step _ _ (byte-here ProofShort 1 (place + 4) (to_be_bytes w64 c.cap ++ (body ++ said)))
    ∙ bind-step _ _ refl
    ∙ bind-step _ _ (eight-here ProofShort c.cap (place + 4 + 1) (body ++ said) is.cap)
    ∙ bind-step _ _ (ap in_proof (body-again c.table (place + 4 + 1 + 8) said is.table))
    ∙ bind-step _ _ (ap (λ l. said_at (length c.table.slices) (record { place = place + 4 + 1 + 8 + length body; bytes = l })) (sym (append-nil said))
    ∙ said-again c.table c.said (place + 4 + 1 + 8 + length body) [] is.said is.widths)
    ∙ same_rest c _ _ [] (omega (arith, length-append body said))

pub certificate-again : CertificateIsReadAgain
unfolding certified
certificate-again c is = bind-step _ _ (cert-again c 0 is) ∙ bind-step _ _ refl
