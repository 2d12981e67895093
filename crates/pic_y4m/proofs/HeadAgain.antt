-- A written head line is read back.
use Rattle.std.proofs.Common.{◌≡◌, ℕ, ◌+◌, ◌%◌, ◌^◌, ◌<◌, ◌≤◌, min, lit<, true, false, not, eqb, ltb, List, [], ◌∷◌, ◌++◌, length, Some, Ok, refl, sym, ap, ◌∙◌, subst, arith, ⊎_elim, length-append, append_assoc, eq-eqb}
use Rattle.std.proofs.Math.Seq.{take-append_seam, drop-append-add}
use Rattle.std.proofs.lemmas.Bool.{lt-ltb, le-ltb, cases_Bool, eqb-true}
use Rattle.std.proofs.lemmas.Fmt.{decimal_is_IsNumeral, length-decimal-le}
use Rattle.std.proofs.lemmas.List.Splits.{slice_split_at, slice_split_none}
use Rattle.std.proofs.lemmas.List.Elements.{All-from_recursion}
use Rattle.std.specs.Prelude.{codes, bytes_eq}
use Rattle.std.specs.Char.{digit_value}
use Rattle.std.specs.Fmt.{decimal}
use Rattle.std.specs.List.{position_or_len, prefix_len, slice_split, AllByRecursion}
use Rattle.std.specs.Str.Parse.{AllDigits}
use Rattle.pw_outside.specs.Reading.{bind}
use Rattle.pw_planes.specs.declared.kinds.AlphaKind.TheVariants.{Absent}
use Rattle.pw_planes.specs.declared.kinds.Chroma.{Chroma}
use Rattle.pw_planes.specs.declared.kinds.Chroma.TheVariants.{C422, C444}
use Rattle.pw_planes.specs.declared.kinds.Depth.{Depth}
use Rattle.pw_planes.specs.declared.kinds.Depth.TheVariants.{D8, D10, D12}
use Rattle.pw_planes.specs.declared.kinds.Interlace.{Interlace}
use Rattle.pw_planes.specs.declared.kinds.Interlace.TheVariants.{Progressive, TopFirst, BottomFirst}
use Rattle.pw_planes.specs.declared.plane.TheConstants.{MAX_WIDTH, MAX_HEIGHT}
use Rattle.pic_y4m.specs.declared.fault.PictureKind.TheVariants as kinds
use Rattle.pic_y4m.specs.declared.head.Head.{Head}
use Rattle.pic_y4m.specs.declared.head.TheConstants.{MAX_RATE_NUM, MAX_RATE_DEN}
use Rattle.pic_y4m.specs.declared.parameters.Parameters.{Parameters}
use Rattle.pic_y4m.specs.Values.{number_within, rate_of, interlace_of, format_of, is_shared, depth_of}
use Rattle.pic_y4m.specs.Parameters.{none_found, is_space, with_width, with_height, with_rate, with_mode, with_format, with_parameter, parameters_of}
use Rattle.pic_y4m.specs.Line.{magic, magic_at}
use Rattle.pic_y4m.specs.HeadLine.{IsHead, is_interlaced, mode_allowed, stream_of, text_stream, stream_at}
use Rattle.pic_y4m.specs.Frames.{started, start_at}
use Rattle.pic_y4m.specs.Writing.{mode_text, sampling_text, depth_text, head_bytes}
use Rattle.pic_y4m.proofs.Lines.{line-ends, eqb-some}
use Rattle.pic_y4m.proofs.Numbers.{number-read, within-inside}

-- ---- texts without a byte

abbrev Lacks : ℕ → List ℕ → Type 0
Lacks c xs = AllByRecursion (λ x. eqb x c ≡ false) xs

lacks-append : (c : ℕ) (xs ys : List ℕ) → Lacks c xs → Lacks c ys → Lacks c (xs ++ ys)
lacks-append c [] ys a b = b
lacks-append c (x ∷ xs) ys a b = (a.0, lacks-append c xs ys a.1 b)

lacks-digits : (c : ℕ) (xs : List ℕ) → (digit_value c < 10 → ⊥) → AllDigits 10 xs → Lacks c xs
lacks-digits c [] other a = tt
lacks-digits c (x ∷ xs) other a = (⊎_elim (λ t. absurd (other (subst (λ k. digit_value k < 10) (eqb-true x c t) a.0))) (λ f. f) (cases_Bool (eqb x c)), lacks-digits c xs other a.1)

lacks-len : (c : ℕ) (xs : List ℕ) → Lacks c xs → prefix_len (λ x. not (eqb x c)) xs ≡ length xs
lacks-len c [] a = refl
lacks-len c (x ∷ xs) a = let e : prefix_len (λ x. not (eqb x c)) (x ∷ xs) ≡ 1 + prefix_len (λ x. not (eqb x c)) xs = rw a.0 refl in let ih = lacks-len c xs a.1 in omega (arith, e, ih)

lacks-place : (c : ℕ) (xs ys : List ℕ) → Lacks c xs → prefix_len (λ x. not (eqb x c)) (xs ++ c ∷ ys) ≡ length xs
lacks-place c [] ys a = rw (eq-eqb c c refl) refl
lacks-place c (x ∷ xs) ys a = let e : prefix_len (λ x. not (eqb x c)) (x ∷ xs ++ c ∷ ys) ≡ 1 + prefix_len (λ x. not (eqb x c)) (xs ++ c ∷ ys) = rw a.0 refl in let ih = lacks-place c xs ys a.1 in omega (arith, e, ih)

-- ---- numbers

digits-of : (n : ℕ) → n < 2 ^ 64 → AllDigits 10 (decimal n)
digits-of n lt = (decimal_is_IsNumeral n lt).0.1

number-again : (low high n : ℕ) → low ≤ n → n ≤ high → n < 2 ^ 64 → number_within low high (decimal n) ≡ Some n
number-again low high n a b lt =
    let d = decimal_is_IsNumeral n lt in
    number-read low high (decimal n) n (record { some = d.0.0; digits = d.0.1; small = subst (λ k. k < 2 ^ 64) (sym d.1) lt }) (sym d.1) ∙ within-inside low high n a b

rate-again : (num den : ℕ) → 1 ≤ num → num ≤ MAX_RATE_NUM → 1 ≤ den → den ≤ MAX_RATE_DEN → rate_of (decimal num ++ 58 ∷ decimal den) ≡ Some (record { num = num; den = den })
unfolding rate_of
rate-again num den a b c d =
    let n1 = number-again 0 MAX_RATE_NUM num (omega arith) b (omega arith) in
    let n2 = number-again 0 MAX_RATE_DEN den (omega arith) d (omega arith) in
    let colon : position_or_len (λ x. eqb x 58) (decimal num ++ 58 ∷ decimal den) ≡ length (decimal num) = lacks-place 58 (decimal num) (decimal den) (lacks-digits 58 (decimal num) (λ x. absurd (omega arith)) (digits-of num (omega arith))) in
    let there : ltb (length (decimal num)) (length (decimal num ++ 58 ∷ decimal den)) ≡ true = lt-ltb _ _ (omega (arith, length-append (decimal num) (58 ∷ decimal den))) in
    let some_num : eqb num 0 ≡ false = eqb-some num (omega (arith, a)) in
    let some_den : eqb den 0 ≡ false = eqb-some den (omega (arith, c)) in
    rw (colon, there, take-append_seam (decimal num) (58 ∷ decimal den), drop-append-add (decimal num) (58 ∷ decimal den) 1, n1, n2, some_num, some_den) refl

mode-again : (i : Interlace) → interlace_of (mode_text i) ≡ Some i
unfolding interlace_of
mode-again Progressive = refl
mode-again TopFirst = refl
mode-again BottomFirst = refl

format-again : (c : Chroma) (d : Depth) → format_of (sampling_text c ++ depth_text d) ≡ Some (record { chroma = c; depth = d; shares_rows = false })
unfolding format_of is_shared depth_of
format-again C422 D8 = refl
format-again C422 D10 = refl
format-again C422 D12 = refl
format-again C444 D8 = refl
format-again C444 D10 = refl
format-again C444 D12 = refl

-- ---- the words of a head line

-- five words, each after a space
abbrev line-text : List ℕ → List ℕ → List ℕ → List ℕ → List ℕ → List ℕ
line-text a b c d e = 32 ∷ (a ++ 32 ∷ (b ++ 32 ∷ (c ++ 32 ∷ (d ++ 32 ∷ e))))

split-more : (xs ys : List ℕ) → Lacks 32 xs → slice_split is_space (xs ++ 32 ∷ ys) ≡ xs ∷ slice_split is_space ys
split-more xs ys a = slice_split_at is_space xs 32 ys (All-from_recursion (λ x. is_space x ≡ false) xs a) refl

split-again : (a b c d e : List ℕ) → Lacks 32 a → Lacks 32 b → Lacks 32 c → Lacks 32 d → Lacks 32 e → slice_split is_space (line-text a b c d e) ≡ [] ∷ a ∷ b ∷ c ∷ d ∷ e ∷ []
split-again a b c d e ha hb hc hd he =
    ap (λ w. [] ∷ w) (split-more a (b ++ 32 ∷ (c ++ 32 ∷ (d ++ 32 ∷ e))) ha
    ∙ ap (λ w. a ∷ w) (split-more b (c ++ 32 ∷ (d ++ 32 ∷ e)) hb
    ∙ ap (λ w. b ∷ w) (split-more c (d ++ 32 ∷ e) hc
    ∙ ap (λ w. c ∷ w) (split-more d e hd
    ∙ ap (λ w. d ∷ w) (slice_split_none is_space e (All-from_recursion (λ x. is_space x ≡ false) e he))))))

-- the words of a head
abbrev width-word : Head → List ℕ
width-word h = 87 ∷ decimal h.width

abbrev height-word : Head → List ℕ
height-word h = 72 ∷ decimal h.height

abbrev rate-word : Head → List ℕ
rate-word h = 70 ∷ (decimal h.num ++ 58 ∷ decimal h.den)

abbrev mode-word : Head → List ℕ
mode-word h = 73 ∷ mode_text h.interlace

abbrev format-word : Head → List ℕ
format-word h = 67 ∷ (sampling_text h.chroma ++ depth_text h.depth)

abbrev head-text : Head → List ℕ
head-text h = line-text (width-word h) (height-word h) (rate-word h) (mode-word h) (format-word h)

mode-lacks-32 : (i : Interlace) → Lacks 32 (mode_text i)
mode-lacks-32 Progressive = (refl, tt)
mode-lacks-32 TopFirst = (refl, tt)
mode-lacks-32 BottomFirst = (refl, tt)

sampling-lacks-32 : (s : Chroma) → Lacks 32 (sampling_text s)
sampling-lacks-32 C422 = (refl, (refl, (refl, tt)))
sampling-lacks-32 C444 = (refl, (refl, (refl, tt)))

depth-lacks-32 : (d : Depth) → Lacks 32 (depth_text d)
depth-lacks-32 D8 = tt
depth-lacks-32 D10 = (refl, (refl, (refl, tt)))
depth-lacks-32 D12 = (refl, (refl, (refl, tt)))

mode-lacks-10 : (i : Interlace) → Lacks 10 (mode_text i)
mode-lacks-10 Progressive = (refl, tt)
mode-lacks-10 TopFirst = (refl, tt)
mode-lacks-10 BottomFirst = (refl, tt)

sampling-lacks-10 : (s : Chroma) → Lacks 10 (sampling_text s)
sampling-lacks-10 C422 = (refl, (refl, (refl, tt)))
sampling-lacks-10 C444 = (refl, (refl, (refl, tt)))

depth-lacks-10 : (d : Depth) → Lacks 10 (depth_text d)
depth-lacks-10 D8 = tt
depth-lacks-10 D10 = (refl, (refl, (refl, tt)))
depth-lacks-10 D12 = (refl, (refl, (refl, tt)))

-- the parameters of a head
abbrev head-parameters : Head → ℕ → Parameters
head-parameters h place = record {
  width = Some h.width;
  height = Some h.height;
  rate = Some (record { num = h.num; den = h.den });
  mode = Some (record { interlace = h.interlace; place = place });
  format = Some (record { chroma = h.chroma; depth = h.depth; shares_rows = false });
}

mixed-other : (i : Interlace) → bytes_eq (mode_text i) (codes "m") ≡ false
mixed-other Progressive = refl
mixed-other TopFirst = refl
mixed-other BottomFirst = refl

words-again : (h : Head) → IsHead h → (place : ℕ) × (parameters_of none_found 9 ([] ∷ width-word h ∷ height-word h ∷ rate-word h ∷ mode-word h ∷ format-word h ∷ []) ≡ Ok (head-parameters h place))
unfolding parameters_of with_parameter with_width with_height with_rate with_mode with_format bind
words-again h w =
    let n1 = number-again 1 MAX_WIDTH h.width w.some_columns w.columns (omega (arith, w.columns)) in
    let n2 = number-again 1 MAX_HEIGHT h.height w.some_rows w.rows (omega (arith, w.rows)) in
    let n3 = rate-again h.num h.den w.some_num w.num w.some_den w.den in
    let m = mixed-other h.interlace in
    let n4 = mode-again h.interlace in
    let n5 = format-again h.chroma h.depth in
    (9 + (0 + 1) + (length (width-word h) + 1) + (length (height-word h) + 1) + (length (rate-word h) + 1), rw (n1, n2, n3, m, n4, n5) refl)

mode-fits : (h : Head) (place : ℕ) → IsHead h → mode_allowed (head-parameters h place) (record { chroma = h.chroma; depth = h.depth; shares_rows = false }) ≡ Ok tt
unfolding mode_allowed
mode-fits h place w = ⊎_elim (λ t. let e : h.height % 2 ≡ 0 = w.fields t in rw (t, e) refl) (λ f. rw f refl) (cases_Bool (is_interlaced h.interlace))

stream-again : (h : Head) (place : ℕ) → IsHead h → h.alpha ≡ Absent → stream_of (head-parameters h place) ≡ Ok (record { head = h; shares_rows = false })
unfolding stream_of bind
stream-again h place w alpha = let a = sym alpha in rw (mode-fits h place w) (λ i. Ok (record { head = record h { alpha = a i }; shares_rows = false }))

text-again : (h : Head) → IsHead h → h.alpha ≡ Absent → Lacks 32 (width-word h) → Lacks 32 (height-word h) → Lacks 32 (rate-word h) → Lacks 32 (mode-word h) → Lacks 32 (format-word h)
    → text_stream (head-text h) ≡ Ok (record { head = h; shares_rows = false })
unfolding text_stream bind
text-again h w alpha a b c d e =
    let words = words-again h w in
    let some : ltb 0 (length (head-text h)) ≡ true = lt-ltb _ _ (omega arith) in
    rw (some, split-again (width-word h) (height-word h) (rate-word h) (mode-word h) (format-word h) a b c d e, words.1, stream-again h words.0 w alpha) refl

number-lacks-32 : (n : ℕ) → n < 2 ^ 64 → Lacks 32 (decimal n)
number-lacks-32 n lt = lacks-digits 32 (decimal n) (λ x. absurd (omega arith)) (digits-of n lt)

number-lacks-10 : (n : ℕ) → n < 2 ^ 64 → Lacks 10 (decimal n)
number-lacks-10 n lt = lacks-digits 10 (decimal n) (λ x. absurd (omega arith)) (digits-of n lt)

line-lacks : (h : Head) → IsHead h → Lacks 10 (head-text h)
line-lacks h w =
    let e = lacks-append 10 (sampling_text h.chroma) (depth_text h.depth) (sampling-lacks-10 h.chroma) (depth-lacks-10 h.depth) in
    let d = lacks-append 10 (mode_text h.interlace) (32 ∷ format-word h) (mode-lacks-10 h.interlace) (refl, (refl, e)) in
    let c2 = lacks-append 10 (decimal h.den) (32 ∷ (mode-word h ++ 32 ∷ format-word h)) (number-lacks-10 h.den (omega (arith, w.den))) (refl, (refl, d)) in
    let c1 = lacks-append 10 (decimal h.num) (58 ∷ (decimal h.den ++ 32 ∷ (mode-word h ++ 32 ∷ format-word h))) (number-lacks-10 h.num (omega (arith, w.num))) (refl, c2) in
    let c = subst (λ (l : List ℕ). Lacks 10 l) (sym (append_assoc (decimal h.num) (58 ∷ decimal h.den) (32 ∷ (mode-word h ++ 32 ∷ format-word h)))) c1 in
    let b = lacks-append 10 (decimal h.height) (32 ∷ (rate-word h ++ 32 ∷ (mode-word h ++ 32 ∷ format-word h))) (number-lacks-10 h.height (omega (arith, w.rows))) (refl, (refl, c)) in
    let a = lacks-append 10 (decimal h.width) (32 ∷ (height-word h ++ 32 ∷ (rate-word h ++ 32 ∷ (mode-word h ++ 32 ∷ format-word h)))) (number-lacks-10 h.width (omega (arith, w.columns))) (refl, (refl, b)) in
    (refl, (refl, a))

few-letters : (h : Head) → length (mode_text h.interlace) + length (sampling_text h.chroma) + length (depth_text h.depth) ≤ 7
few-letters h = all h.interlace h.chroma h.depth
  where
    of-depth : (d : Depth) → length (depth_text d) ≤ 3
    of-depth D8 = omega arith
    of-depth D10 = omega arith
    of-depth D12 = omega arith

    of-sampling : (c : Chroma) → length (sampling_text c) ≤ 3
    of-sampling C422 = omega arith
    of-sampling C444 = omega arith

    of-mode : (i : Interlace) → length (mode_text i) ≤ 1
    of-mode Progressive = omega arith
    of-mode TopFirst = omega arith
    of-mode BottomFirst = omega arith

    all : (i : Interlace) (c : Chroma) (d : Depth) → length (mode_text i) + length (sampling_text c) + length (depth_text d) ≤ 7
    all i c d = omega (arith, of-depth d, of-sampling c, of-mode i)

line-few : (h : Head) → IsHead h → length (head-text h) < 1015
line-few h w =
    let w1 = length-decimal-le 4 h.width (lit< tt) (omega (arith, w.columns)) (omega (arith, w.columns)) in
    let w2 = length-decimal-le 4 h.height (lit< tt) (omega (arith, w.rows)) (omega (arith, w.rows)) in
    let w3 = length-decimal-le 7 h.num (lit< tt) (omega (arith, w.num)) (omega (arith, w.num)) in
    let w4 = length-decimal-le 4 h.den (lit< tt) (omega (arith, w.den)) (omega (arith, w.den)) in
    let l1 = length-append (decimal h.width) (32 ∷ (height-word h ++ 32 ∷ (rate-word h ++ 32 ∷ (mode-word h ++ 32 ∷ format-word h)))) in
    let l2 = length-append (decimal h.height) (32 ∷ (rate-word h ++ 32 ∷ (mode-word h ++ 32 ∷ format-word h))) in
    let l3 = length-append (decimal h.num ++ 58 ∷ decimal h.den) (32 ∷ (mode-word h ++ 32 ∷ format-word h)) in
    let l4 = length-append (decimal h.num) (58 ∷ decimal h.den) in
    let l5 = length-append (mode_text h.interlace) (32 ∷ format-word h) in
    let l6 = length-append (sampling_text h.chroma) (depth_text h.depth) in
    omega (arith, few-letters h, w1, w2, w3, w4, l1, l2, l3, l4, l5, l6)

-- the words and the line feed
abbrev in-turn : List ℕ → List ℕ → List ℕ → List ℕ → List ℕ → List ℕ → List ℕ → List ℕ → List ℕ
in-turn a b n d m s t end = 32 ∷ 87 ∷ (a ++ 32 ∷ 72 ∷ (b ++ 32 ∷ 70 ∷ (n ++ 58 ∷ (d ++ 32 ∷ 73 ∷ (m ++ 32 ∷ 67 ∷ (s ++ (t ++ end)))))))

written-parts : (a b n d m s t rest : List ℕ)
    → codes "YUV4MPEG2 W" ++ a ++ codes " H" ++ b ++ codes " F" ++ n ++ codes ":" ++ d ++ codes " I" ++ m ++ codes " C" ++ s ++ t ++ codes "\n" ++ rest ≡ magic ++ in-turn a b n d m s t (10 ∷ rest)
written-parts a b n d m s t rest = simp append_assoc

read-parts : (a b n d m s t end : List ℕ) → line-text (87 ∷ a) (72 ∷ b) (70 ∷ (n ++ 58 ∷ d)) (73 ∷ m) (67 ∷ (s ++ t)) ++ end ≡ in-turn a b n d m s t end
read-parts a b n d m s t end =
    let tag : (s ++ t) ++ end ≡ s ++ (t ++ end) = append_assoc s t end in
    let mode : (m ++ 32 ∷ 67 ∷ (s ++ t)) ++ end ≡ m ++ 32 ∷ 67 ∷ (s ++ (t ++ end)) = append_assoc m (32 ∷ 67 ∷ (s ++ t)) end ∙ ap (λ (l : List ℕ). m ++ 32 ∷ 67 ∷ l) tag in
    let den : (d ++ 32 ∷ 73 ∷ (m ++ 32 ∷ 67 ∷ (s ++ t))) ++ end ≡ d ++ 32 ∷ 73 ∷ (m ++ 32 ∷ 67 ∷ (s ++ (t ++ end))) = append_assoc d (32 ∷ 73 ∷ (m ++ 32 ∷ 67 ∷ (s ++ t))) end ∙ ap (λ (l : List ℕ). d ++ 32 ∷ 73 ∷ l) mode in
    let one : (n ++ 58 ∷ d) ++ 32 ∷ 73 ∷ (m ++ 32 ∷ 67 ∷ (s ++ t)) ≡ n ++ 58 ∷ (d ++ 32 ∷ 73 ∷ (m ++ 32 ∷ 67 ∷ (s ++ t))) = append_assoc n (58 ∷ d) (32 ∷ 73 ∷ (m ++ 32 ∷ 67 ∷ (s ++ t))) in
    let rate : ((n ++ 58 ∷ d) ++ 32 ∷ 73 ∷ (m ++ 32 ∷ 67 ∷ (s ++ t))) ++ end ≡ n ++ 58 ∷ (d ++ 32 ∷ 73 ∷ (m ++ 32 ∷ 67 ∷ (s ++ (t ++ end)))) = ap (λ (l : List ℕ). l ++ end) one ∙ append_assoc n (58 ∷ (d ++ 32 ∷ 73 ∷ (m ++ 32 ∷ 67 ∷ (s ++ t)))) end ∙ ap (λ (l : List ℕ). n ++ 58 ∷ l) den in
    let height : (b ++ 32 ∷ 70 ∷ ((n ++ 58 ∷ d) ++ 32 ∷ 73 ∷ (m ++ 32 ∷ 67 ∷ (s ++ t)))) ++ end ≡ b ++ 32 ∷ 70 ∷ (n ++ 58 ∷ (d ++ 32 ∷ 73 ∷ (m ++ 32 ∷ 67 ∷ (s ++ (t ++ end))))) = append_assoc b (32 ∷ 70 ∷ ((n ++ 58 ∷ d) ++ 32 ∷ 73 ∷ (m ++ 32 ∷ 67 ∷ (s ++ t)))) end ∙ ap (λ (l : List ℕ). b ++ 32 ∷ 70 ∷ l) rate in
    let width : (a ++ 32 ∷ 72 ∷ (b ++ 32 ∷ 70 ∷ ((n ++ 58 ∷ d) ++ 32 ∷ 73 ∷ (m ++ 32 ∷ 67 ∷ (s ++ t))))) ++ end ≡ a ++ 32 ∷ 72 ∷ (b ++ 32 ∷ 70 ∷ (n ++ 58 ∷ (d ++ 32 ∷ 73 ∷ (m ++ 32 ∷ 67 ∷ (s ++ (t ++ end)))))) = append_assoc a (32 ∷ 72 ∷ (b ++ 32 ∷ 70 ∷ ((n ++ 58 ∷ d) ++ 32 ∷ 73 ∷ (m ++ 32 ∷ 67 ∷ (s ++ t))))) end ∙ ap (λ (l : List ℕ). a ++ 32 ∷ 72 ∷ l) height in
    ap (λ (l : List ℕ). 32 ∷ 87 ∷ l) width

parts : (h : Head) (rest : List ℕ) → head_bytes h ++ rest ≡ magic ++ (head-text h ++ 10 ∷ rest)
unfolding head_bytes
parts h rest =
    written-parts (decimal h.width) (decimal h.height) (decimal h.num) (decimal h.den) (mode_text h.interlace) (sampling_text h.chroma) (depth_text h.depth) rest
    ∙ ap (λ (l : List ℕ). magic ++ l) (sym (read-parts (decimal h.width) (decimal h.height) (decimal h.num) (decimal h.den) (mode_text h.interlace) (sampling_text h.chroma) (depth_text h.depth) (10 ∷ rest)))

head-len : (h : Head) → length (head_bytes h) ≡ 9 + (length (head-text h) + 1)
head-len h = omega (arith, ap length (parts h []), length-append (head_bytes h) [], length-append magic (head-text h ++ 10 ∷ []), length-append (head-text h) (10 ∷ []))

magic-again : (x : List ℕ) → magic_at (record { place = 0; bytes = magic ++ x }) ≡ Ok (tt, record { place = 9; bytes = x })
unfolding magic_at bind
magic-again x =
    let len : length (magic ++ x) ≡ 9 + length x = length-append magic x in
    let m : min 9 (length (magic ++ x)) ≡ 9 = omega (arith, len) in
    let enough : ltb (length (magic ++ x)) 9 ≡ false = le-ltb _ _ (omega (arith, len)) in
    rw (m, enough) refl

pub head-again : (h : Head) (rest : List ℕ) → IsHead h → h.alpha ≡ Absent
    → start_at (record { place = 0; bytes = head_bytes h ++ rest })
    ≡ Ok (started (record { head = h; shares_rows = false }) (length (head_bytes h)), record { place = length (head_bytes h); bytes = rest })
unfolding start_at stream_at bind
head-again h rest w alpha =
    let e32 = lacks-append 32 (sampling_text h.chroma) (depth_text h.depth) (sampling-lacks-32 h.chroma) (depth-lacks-32 h.depth) in
    let c32 = lacks-append 32 (decimal h.num) (58 ∷ decimal h.den) (number-lacks-32 h.num (omega (arith, w.num))) (refl, number-lacks-32 h.den (omega (arith, w.den))) in
    let text = text-again h w alpha (refl, number-lacks-32 h.width (omega (arith, w.columns))) (refl, number-lacks-32 h.height (omega (arith, w.rows))) (refl, c32) (refl, mode-lacks-32 h.interlace) (refl, e32) in
    let line = line-ends 1015 1024 9 (length (head_bytes h)) kinds.Parameter (head-text h ++ 10 ∷ rest) (head-text h) (10 ∷ rest) rest (Some 10) 10 (line-few h w) (lacks-len 10 (head-text h) (line-lacks h w)) refl refl refl refl (head-len h) in
    rw (parts h rest, magic-again (head-text h ++ 10 ∷ rest), line, text) refl
