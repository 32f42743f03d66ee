use Rattle.std.proofs.Common.{◌≡◌, ℕ, ◌+◌, ◌-◌, ◌*◌, ◌/◌, ◌%◌, ◌^◌, ◌<◌, ◌≤◌, ◌++◌, ◌∙◌, false, List, Bool, length, take, drop, replicate, ap, arith}
use Rattle.per_bits.specs.Bits.{digits, octet_bits}
use Rattle.per_bits.proofs.Places.{length_prefix}
use Rattle.per_bits.proofs.Buffer.{put_fits, put_step, front_and_rest}
use Rattle.per_bits.proofs.writing.put_at.Goals as goal

-- behind the place are zeros
zeros_behind : (octets : List ℕ) (start : ℕ) → start ≤ 8 * length octets → drop start (octet_bits octets) ≡ replicate (1184 - start) false
    → octet_bits octets ≡ take start (octet_bits octets) ++ replicate (1184 - length (take start (octet_bits octets))) false
zeros_behind octets start h clear =
    let long : length (take start (octet_bits octets)) ≡ start = length_prefix octets start h in
    front_and_rest (octet_bits octets) start (1184 - length (take start (octet_bits octets))) (clear ∙ ap (λ n. replicate (1184 - n) false) (omega (arith, long)))

pub overflow_add-window : goal.overflow_add-window
overflow_add-window c =
    let bits : List Bool = octet_bits c.args.octets.now in
    let long : length (take c.args.start bits) ≡ c.args.start = length_prefix c.args.octets.now c.args.start (omega arith) in
    let fits : c.window_at.result + c.args.value * 2 ^ (64 - c.args.start % 8 - c.args.width) < 2 ^ 64 =
    put_fits bits (take c.args.start bits) 1184 (8 * (c.args.start / 8)) (c.args.start % 8) c.args.width c.args.value c.window_at.result
    (zeros_behind c.args.octets.now c.args.start (omega arith) c.requires.clear)
    (omega (arith, long)) (omega arith) (omega arith) c.requires.fits c.window_at.ensures.value in
    omega (arith, fits, c.in_window.ensures)

pub returns : goal.returns
returns c =
    let bits : List Bool = octet_bits c.args.octets.now in
    let long : length (take c.args.start bits) ≡ c.args.start = length_prefix c.args.octets.now c.args.start (omega arith) in
    c.put_window.ensures
    ∙ ap (λ x. take (8 * (c.args.start / 8)) bits ++ (digits 64 (c.window_at.result + x) ++ drop (8 * (c.args.start / 8 + 8)) bits)) c.in_window.ensures
    ∙ ap (λ n. take (8 * (c.args.start / 8)) bits ++ (digits 64 (c.window_at.result + c.args.value * 2 ^ (64 - c.args.start % 8 - c.args.width)) ++ drop n bits)) (omega arith)
    ∙ put_step bits (take c.args.start bits) 1184 (8 * (c.args.start / 8)) (c.args.start % 8) c.args.width c.args.value c.window_at.result
    (zeros_behind c.args.octets.now c.args.start (omega arith) c.requires.clear)
    (omega (arith, long)) (omega arith) (omega arith) c.requires.fits c.window_at.ensures.value
    ∙ ap (λ n. take c.args.start bits ++ digits c.args.width c.args.value ++ replicate (1184 - (n + c.args.width)) false) long
