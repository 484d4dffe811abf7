-- Two bytes of the length and the message stand in an array of zeros.
use Rattle.std.proofs.Common.{◌≡◌, ℕ, ◌+◌, ◌-◌, ◌/◌, ◌%◌, ◌∷◌, length, get_or, ap, ◌∙◌, arith}
use Rattle.erasure.specs.Coding.{headed}
use Rattle.erasure.proofs.Arrays.{frame-array}
use Rattle.erasure.proofs.frame_of.Goals as goal

pub returns : goal.returns
unfolding headed
returns c = λ i.
    let m = c.args.message.now in
    let n = length m in
    let e : n / 256 % 256 ≡ n / 256 = omega arith in
    frame-array (n / 256 % 256) (n % 256) (n + 2 - 2) c.args.frame.now c.copy_from_slice.new.self c.copy_from_slice-2.new.self m c.requires.1
    (c.copy_from_slice.ensures.after ∙ c.to_be_bytes.ensures) c.copy_from_slice-2.ensures.after i
    ∙ ap (λ (h : ℕ). get_or (h ∷ n % 256 ∷ m) i 0) e
