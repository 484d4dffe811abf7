-- `commitment::shares::Shares::write_entry` meets its contract: no bytes for the own number, else what the packet writer gives, which neither refuses
-- nor finds the buffer short. Assumes nothing.
use Rattle.std.proofs.Common.{◌≡◌, ℕ, ◌-◌, ◌*◌, ◌≤◌, List, [], ◌∷◌, length, take, drop, sym, ap, ap₂, ◌∙◌, arith}
use Rattle.std.specs.Prelude.{Result, Ok, is_ok}
use Rattle.cause.specs.declared.Cause.{Cause}
use Rattle.cause.specs.declared.Refusal.{Refusal}
use Rattle.sha256.specs.Sha256.{sha256}
use Rattle.buffer.specs.Given.{Given, Done, said, gave}
use Rattle.buffer.specs.Splice.{spliced}
use Rattle.buffer.proofs.Parts.{length_part}
use Rattle.buffer.proofs.Splice.{put-fits}
use Rattle.merkle.specs.Shares.{sides_of, path_in}
use Rattle.merkle.proofs.Slots.{path-read}
use Rattle.packet.specs.Answer.{write_entry_of}
use Rattle.commitment.specs.Mail.{entry}
use Rattle.commitment.specs.declared.shares.Shares.{Shares}
use Rattle.commitment.proofs.Answers.{said-done}
use Rattle.commitment.proofs.Shared.{share-inside}
use Rattle.commitment.proofs.Outbox.{entry-own, entry_done}
use Rattle.commitment.proofs.shares.Shares.write_entry.Goals as goal

module _ (s : Shares) (j : ℕ) (first : 1 ≤ j) (last : j ≤ s.seat.n) (other : j ≡ s.seat.own → ⊥) (out : List ℕ) (room : length (entry s j) ≤ length out)
    (count : ℕ) (few : count ≡ length (sides_of s.seat.n j)) (share : List ℕ) (cut : share ≡ take s.len (drop ((j - 1) * s.len) s.all.now))
    (path : List (List ℕ)) (read : path ≡ path_in s.seat.n j s.leaves.now s.nodes.now)
    (r : Result ℕ (Refusal Cause)) (o : List ℕ) (given : gave (said r) o ≡ write_entry_of s.seat.n j share path count out) where
  wrote : gave (said r) o ≡ gave (Done (length (entry s j))) (spliced out 0 (entry s j))
  wrote =
      let n : ℕ = s.seat.n in
      let one : List ℕ = take s.len (drop ((j - 1) * s.len) s.all.now) in
      let long : length one ≡ s.len = length_part s.all.now ((j - 1) * s.len) s.len (omega (arith, s.cut, share-inside n j s.len first last)) in
      given
      ∙ ap₂ (λ (y : List ℕ) (l : List (List ℕ)). write_entry_of n j y l count out) cut
      (read ∙ ap (path_in n j s.leaves.now) s.hashed.1 ∙ path-read sha256 n j s.leaves.now)
      ∙ entry_done sha256 n s.seat.own s.leaves.now j one s.seated.0 s.seated.1 first last (omega (arith, s.cut)) (omega (arith, s.cut)) other count few out room

  done : r ≡ Ok (length (entry s j))
  done = said-done r (length (entry s j)) (ap (λ (g : Given). g.answer) wrote)

  lies : (k : ℕ) → r ≡ Ok k → (k ≡ length (entry s j)) × (o ≡ spliced out 0 (entry s j))
  lies k q = let both : Ok k ≡ Ok (length (entry s j)) = sym q ∙ done in (cc, ap (λ (g : Given). g.buffer) wrote)

pub returns-then-j-own : goal.returns-then-j-own
returns-then-j-own c =
    let s = c.args.self.now in
    let j = c.args.j in
    let out = c.args.out.now in
    let e = entry-own sha256 s.seat.n s.seat.own s.leaves.now j (take s.len (drop ((j - 1) * s.len) s.all.now)) (omega arith) in
    (ap length (sym e), c.put.ensures.1 ∙ put-fits out 0 (0 ∷ 0 ∷ []) (omega (arith, ap length e)) ∙ ap (spliced out 0) (sym e))

pub unwrap-requires : goal.unwrap-requires
unwrap-requires c =
    ap is_ok (done c.args.self.now c.args.j (omega arith) (omega arith) (λ q. omega arith) c.args.out.now (omega arith) _ c.path_len.ensures.0 _ c.share.ensures
    _ c.path_in-path.ensures _ _ c.write_entry.ensures)

pub returns : goal.returns
returns c =
    lies c.args.self.now c.args.j (omega arith) (omega arith) (λ q. omega arith) c.args.out.now (omega arith) _ c.path_len.ensures.0 _ c.share.ensures
    _ c.path_in-path.ensures _ _ c.write_entry.ensures _ c.unwrap.ensures
