-- The tools tell their outcome: shares, rebuilding, hash and path check. By the tests of their definitions, one after the other. Assumes nothing.
use mathlib.Core.Path.{◌≡◌, refl, ap, ◌∙◌}
use mathlib.Core.Bool.{Bool, true, false, cond, not, ◌||◌, false≢true}
use mathlib.Core.List.{List, [], ◌∷◌, map}
use Prim.Native.Nat.{ℕ, ◌+◌, ◌-◌, ◌*◌}
use native.Mathlib.Omega.{arith}
use lib.Dec.{leb, ltb, eqb}
use lib.ListN.{length, take}
use Rattle.limits.specs.Limits.{max_message, max_hashed, parties, numbered, group_cause}
use Rattle.buffer.specs.Entries.{size, body, rest, fills, bodies}
use Rattle.buffer.specs.Given.{Given, gave, written}
use Rattle.buffer.specs.Given.{Refused}
use Rattle.erasure.specs.Coding.{share_length, shares, encode_of}
use Rattle.erasure.specs.Rebuild.{Point, cause, message, present, point, framed, other, unframed, joined, recovered, answered, rebuild_of}
use Rattle.sha256.specs.Sha256.{sha256, hash_of}
use Rattle.sha256.specs.Sha256.{Hashed}
use Rattle.merkle.specs.Answer.{not_counted, count_of, Check, not_checked, answer_of}
use Rattle.merkle.specs.Tree.{shape, sides}
use Rattle.buffer.specs.Numbers.{four_bytes}
use Rattle.merkle.specs.Shares.{blank, session_bytes, leaf_string, front_length, same, passes, path_length_of, check_of}
use Rattle.merkle.proofs.Written.{length-leaf_string}
use Rattle.merkle.proofs.Judged.{passes-true, passes_same, same_refl}
use Rattle.packet.specs.Format.{Reading, silence, unreadable, shared, read_of}
use Rattle.packet.specs.Answer.{cause_in, placed, read_at}
use Rattle.packet.specs.Packet as packet
use Rattle.claims.specs.Terms.{when, foremost, group_then, unless, cause_joined, book_joined, unread, leaf, Leads}

-- shares
pub shares-told : (n t : ℕ) (m out : List ℕ)
    → encode_of n t m out ≡ unless (group_then n t (when 4 (ltb max_message (length m)) ∷ [])) (shares n (n - t) m) out
unfolding encode_of group_cause foremost
shares-told n t m out = go (not (parties n)) (leb n (2 * t)) (ltb max_message (length m)) (written (shares n (n - t) m) out)
  where
    go : (a b d : Bool) (w : Given)
        → cond (not (eqb (cond a 1 (cond b 2 0)) 0)) (gave (Refused (cond a 1 (cond b 2 0))) out) (cond d (gave (Refused 4) out) w)
        ≡ cond (eqb (foremost (when 1 a ∷ when 2 b ∷ when 4 d ∷ [])) 0) w (gave (Refused (foremost (when 1 a ∷ when 2 b ∷ when 4 d ∷ []))) out)
    go true b d w = refl
    go false true d w = refl
    go false false true w = refl
    go false false false w = refl

-- rebuilding
pub rebuild-told : (n t : ℕ) (es out : List ℕ) → let ps = present 1 (bodies n es) in let r = joined (n - t) (length (point ps 0).share) (take (n - t) ps) in
    rebuild_of n t es out ≡ unless (group_then n t (when 8 (not (fills n es)) ∷ when 11 (ltb (length ps) (n - t)) ∷ cause_joined r ∷ [])) (book_joined r) out
unfolding rebuild_of recovered joined unframed group_cause foremost
rebuild-told n t es out =
    let b = n - t in
    let ps = present 1 (bodies n es) in
    let s = length (point ps 0).share in
    let f = framed b s (take b ps) in
    go (not (parties n)) (leb n (2 * t)) (not (fills n es)) (ltb (length ps) b) (other s (map (λ (p : Point). length p.share) (take b ps)))
    (ltb (length f) 2 || ltb max_message (size f) || not (eqb s (share_length b (size f))) || other 0 (rest f)) (body f)
  where
    go : (a b d e o u : Bool) (m : List ℕ)
        → cond (not (eqb (cond a 1 (cond b 2 0)) 0)) (gave (Refused (cond a 1 (cond b 2 0))) out)
        (cond d (gave (Refused 8) out) (answered (cond e (cause 11) (cond o (cause 12) (cond u (cause 12) (message m)))) out))
        ≡ unless (foremost (when 1 a ∷ when 2 b ∷ when 8 d ∷ when 11 e ∷ cause_joined (cond o (cause 12) (cond u (cause 12) (message m))) ∷ []))
        (book_joined (cond o (cause 12) (cond u (cause 12) (message m)))) out
    go true b d e o u m = refl
    go false true d e o u m = refl
    go false false true e o u m = refl
    go false false false true o u m = refl
    go false false false false true u m = refl
    go false false false false false true m = refl
    go false false false false false false m = refl

-- the hash
pub hash-told : (m : List ℕ)
    → hash_of m ≡ record { cause = when 4 (ltb max_hashed (length m)); digest = cond (ltb max_hashed (length m)) blank (sha256 m) }
unfolding hash_of
hash-told m = go (ltb max_hashed (length m))
  where
    go : (b : Bool) → ◌≡◌ {A = Hashed} (cond b (record { cause = 4; digest = blank }) (record { cause = 0; digest = sha256 m }))
        (record { cause = when 4 b; digest = cond b blank (sha256 m) })
    go true = refl
    go false = refl

-- a leaf string's length
front : (session j : ℕ) (x : List ℕ) → length (leaf session j x) ≡ front_length session + length x
unfolding leaf_string session_bytes four_bytes
front session j x = length-leaf_string session j x

-- the path check
module _ (session n j : ℕ) (x : List ℕ) (p : List (List ℕ)) (k : ℕ) (z : List ℕ) where
  pub check-told : (check_of sha256 session n j x p k z).cause
      ≡ foremost (when 1 (not (parties n)) ∷ when 3 (not (numbered n j)) ∷ when 4 (ltb max_hashed (length (leaf session j x))) ∷ when 7 (not (eqb (length z) 32)) ∷ [])
  unfolding check_of foremost
  check-told = rw (front session j x) (go (not (parties n)) (not (numbered n j)) (ltb max_hashed (front_length session + length x)) (not (eqb (length z) 32)) (passes sha256 session n j x p k z))
    where
      go : (a b d e q : Bool)
          → (cond a (not_checked 1) (cond b (not_checked 3) (cond d (not_checked 4) (cond e (not_checked 7) (answer_of q))))).cause
          ≡ foremost (when 1 a ∷ when 3 b ∷ when 4 d ∷ when 7 e ∷ [])
      go true b d e q = refl
      go false true d e q = refl
      go false false true e q = refl
      go false false false true q = refl
      go false false false false q = refl

  abbrev tested : Bool → Bool → Bool → Bool → Bool → Check
  tested a b d e q = cond a (not_checked 1) (cond b (not_checked 3) (cond d (not_checked 4) (cond e (not_checked 7) (answer_of q))))

  pub check-yes : let r = check_of sha256 session n j x p k z in
      (r.passed ≡ true → (r.cause ≡ 0) × Leads session n j x p k z) × (r.cause ≡ 0 → Leads session n j x p k z → r.passed ≡ true)
  unfolding check_of leaf_string session_bytes four_bytes
  check-yes = (
    λ h. let g = passed a b d e q h in (g.0, passes-true sha256 session n j x p k z g.1),
    λ h l. taken a b d e q h ∙ passes_same sha256 session n j x p k z l.0 ∙ ap (λ (y : List ℕ). same y z) l.1 ∙ same_refl z,
  )
    where
      a : Bool
      a = not (parties n)

      b : Bool
      b = not (numbered n j)

      d : Bool
      d = ltb max_hashed (front_length session + length x)

      e : Bool
      e = not (eqb (length z) 32)

      q : Bool
      q = passes sha256 session n j x p k z

      passed : (a b d e q : Bool) → (tested a b d e q).passed ≡ true → ((tested a b d e q).cause ≡ 0) × (q ≡ true)
      passed true b d e q h = absurd (false≢true h)
      passed false true d e q h = absurd (false≢true h)
      passed false false true e q h = absurd (false≢true h)
      passed false false false true q h = absurd (false≢true h)
      passed false false false false q h = (refl, h)

      taken : (a b d e q : Bool) → (tested a b d e q).cause ≡ 0 → (tested a b d e q).passed ≡ q
      taken true b d e q h = absurd (omega arith)
      taken false true d e q h = absurd (omega arith)
      taken false false true e q h = absurd (omega arith)
      taken false false false true q h = absurd (omega arith)
      taken false false false false q h = refl

-- the length of a path
pub length-told : (n j : ℕ) → ((path_length_of n j).cause ≡ foremost (when 1 (not (parties n)) ∷ when 3 (not (numbered n j)) ∷ []))
    × ((path_length_of n j).hashes ≡ cond (eqb (path_length_of n j).cause 0) (length (sides (shape n) (j - 1))) 0)
unfolding path_length_of foremost
length-told n j = go (not (parties n)) (not (numbered n j)) (length (sides (shape n) (j - 1)))
  where
    go : (a b : Bool) (k : ℕ) → let r = cond a (not_counted 1) (cond b (not_counted 3) (count_of k)) in
        (r.cause ≡ foremost (when 1 a ∷ when 3 b ∷ [])) × (r.hashes ≡ cond (eqb r.cause 0) k 0)
    go true b k = (refl, refl)
    go false true k = (refl, refl)
    go false false k = (refl, refl)

-- a packet
pub packet-told : (n : ℕ) (p : List ℕ) → cause_in (read_at n p 0) ≡ foremost (when 1 (not (parties n)) ∷ when 10 (unread (read_of n p)) ∷ [])
unfolding read_at foremost
packet-told n p = go (not (parties n)) (read_of n p)
  where
    go : (a : Bool) (r : Reading) → cause_in (cond a (packet.Refused 1) (placed 0 r)) ≡ foremost (when 1 a ∷ when 10 (unread r) ∷ [])
    go true r = refl
    go false silence = refl
    go false unreadable = refl
    go false (shared number share path) = refl
