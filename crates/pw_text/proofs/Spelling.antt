-- The one spelling of a number.
use Rattle.std.proofs.Common.{◌≡◌, ℕ, zero, suc, ◌<◌, ◌^◌, length, get_or, sym, ap, ◌∙◌, arith}
use Rattle.std.specs.Fmt.{decimal}
use Rattle.std.proofs.lemmas.Fmt.{decimal_is_IsNumeral, decimal_digit, first_decimal, decimal-digits_value}
use Rattle.std.proofs.lemmas.Str.Parse.{numerals_by_value, tells_digits}
use Rattle.pw_text.specs.Decimal.{DecimalIsSpelling, SpellingIsDecimal}

first_of : (n : ℕ) → n < 2 ^ 64 → get_or (decimal n) 0 0 ≡ 48 → length (decimal n) ≡ 1
first_of zero small e = ap length (decimal_digit 0 (omega arith))
first_of (suc n) small e = omega (arith, e, first_decimal (suc n) (omega arith) small)

pub decimal_spelled : DecimalIsSpelling
decimal_spelled n small =
    let numeral = decimal_is_IsNumeral n small in
    record {
      digits = record { some = numeral.0.0; digits = numeral.0.1; small = omega (arith, numeral.1, small) };
      value = numeral.1;
      first = first_of n small;
    }

pub spelled_decimal : SpellingIsDecimal
spelled_decimal n bytes s =
    sym (decimal-digits_value (numerals_by_value _ tells_digits) bytes s.digits.digits s.digits.some s.first s.digits.small) ∙ ap decimal s.value
