use Rattle.std.proofs.Common.{◌≡◌, ◌+◌, ◌*◌, ◌++◌, List, Bool, length, take, drop, ap, sym, ◌∙◌, arith}
use Rattle.std.proofs.lemmas.List.{length-drop, take-append-drop, drop-drop}
use Rattle.per_bits.specs.Bits.{Part, value_of, octets_of}
use Rattle.per_bits.proofs.SectionLaws.{open_front, open_in_front}
use Rattle.per_bits.proofs.sections.open_end.Goals as goal

pub returns-then-len-lt-LENGTH_BITS-clause-none : goal.returns-then-len-lt-LENGTH_BITS-clause-none
returns-then-len-lt-LENGTH_BITS-clause-none c octets a rest h e =
    omega (arith, (open_front octets a rest (drop c.args.place c.args.bits.now.bits) h e).long, ap (λ (p : Part). length p.bits) c.behind-rest.ensures.value)

pub returns-then-octets-eq0-clause-none : goal.returns-then-octets-eq0-clause-none
returns-then-octets-eq0-clause-none c octets a rest h e =
    omega (arith, (open_front octets a rest (drop c.args.place c.args.bits.now.bits) h e).some, ap (λ (p : Part). value_of (take 8 p.bits)) c.behind-rest.ensures.value)

pub returns-then-octets-gt-MOST_OCTETS-clause-none : goal.returns-then-octets-gt-MOST_OCTETS-clause-none
returns-then-octets-gt-MOST_OCTETS-clause-none c octets a rest h e =
    omega (arith, (open_front octets a rest (drop c.args.place c.args.bits.now.bits) h e).few, ap (λ (p : Part). value_of (take 8 p.bits)) c.behind-rest.ensures.value)

pub returns-then-len-size-clause-none : goal.returns-then-len-size-clause-none
returns-then-len-size-clause-none c octets a rest h e =
    omega (arith, (open_front octets a rest (drop c.args.place c.args.bits.now.bits) h e).fits, ap (λ (p : Part). value_of (take 8 p.bits)) c.behind-rest.ensures.value, ap (λ (p : Part). length p.bits) c.behind-rest.ensures.value)

pub returns-clause-some : goal.returns-clause-some
returns-clause-some c =
    let bits : List Bool = drop c.args.place c.args.bits.now.bits in
    let number : c.number-octets.result ≡ value_of (take 8 bits) = c.number-octets.ensures.value ∙ ap (λ (p : Part). value_of (take 8 p.bits)) c.behind-rest.ensures.value in
    let long : length c.behind-rest.result.bits ≡ length bits = ap (λ (p : Part). length p.bits) c.behind-rest.ensures.value in
    let left = length-drop c.args.place c.args.bits.now.bits in (
      octets_of (take (8 * c.number-octets.result) (drop 8 bits)),
      take (8 + 8 * c.number-octets.result) bits,
      open_in_front bits c.number-octets.result number (omega arith) (omega arith) (omega arith),
      sym (take-append-drop (8 + 8 * c.number-octets.result) bits) ∙ ap (λ l. take (8 + 8 * c.number-octets.result) bits ++ l) (drop-drop (8 + 8 * c.number-octets.result) c.args.place c.args.bits.now.bits),
      omega arith,
    )
