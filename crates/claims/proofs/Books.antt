-- Books come back from their shares; roots and paths are RFC 6962's; a root has one book; hashes are FIPS 180-4's. From the laws of the coder, of the
-- tree, of the commitment and of the hash. Assumes nothing.
use mathlib.Core.Path.{◌≡◌, refl, sym, ap, ap₂, ◌∙◌}
use mathlib.Core.List.{List, [], ◌∷◌, ◌++◌}
use Prim.Native.Nat.{ℕ, ◌+◌, ◌-◌, ◌*◌, ◌/◌, ◌%◌, ◌≤◌, ◌<◌}
use native.Mathlib.Omega.{arith}
use borrow.Author.Tests.{lt-ltb, le-ltb}
use lib.ListN.{length, take, drop}
use Rattle.limits.proofs.Group.{group_of}
use Rattle.buffer.proofs.Tabulate.{tabulate-cong}
use Rattle.erasure.specs.Coding.{share, shares}
use Rattle.erasure.proofs.Complete.{rebuild-complete}
use Rattle.erasure.proofs.Sound.{rebuild-sound}
use Rattle.sha256.specs.Sha256.{sha256}
use Rattle.sha256.specs.Constants.{round-constants, initial-words}
use Rattle.sha256.specs.Cases.{abc, two_blocks}
use Rattle.sha256.proofs.Laws.{sha256-length}
use Rattle.merkle.specs.Tree.{split, shape, size, node_string, root, path}
use Rattle.buffer.specs.Numbers.{four_bytes}
use Rattle.merkle.specs.Shares.{session_bytes, leaf_string, leaf_strings}
use Rattle.merkle.proofs.Shape.{split-largest, shape-leaf, shape-node, size-shape}
use Rattle.merkle.proofs.Shares.{tree-root}
use Rattle.merkle.proofs.Trees.{path-made}
use Rattle.packet.specs.Format.{chained, packet_of}
use Rattle.packet.specs.Class.{valid, class_of}
use Rattle.commitment.specs.Commitment.{message_root, packet_with}
use Rattle.commitment.specs.Private.{Coded}
use Rattle.commitment.proofs.Messages.{fine, cut, path_to}
use Rattle.commitment.proofs.Packets.{packet-valid}
use Rattle.commitment.proofs.Binding.{valid-share, one-root}
use Rattle.claims.specs.Terms.{leaves}
use Rattle.claims.specs.Claims.{Book, BooksComeBackFromTheirShares, RootsAndPathsAreRFC6962s, ARootHasOneBook, HashesAreFIPS180-4s}

pub books-come-back-from-their-shares : BooksComeBackFromTheirShares
books-come-back-from-their-shares =
    record {
      complete = λ n t m entries out B f U. rebuild-complete n t m entries out B.group f B.bytes B.short U.enough U.own;
      sound = λ n t l entries out b e. let r = rebuild-sound n t l entries out b e in (
        r.text,
        record { group = r.group; short = r.within; bytes = r.small },
        record { enough = r.there; own = r.own },
        r.done,
      );
    }

-- a book within the limits
coded : (n t : ℕ) (m : List ℕ) → Book n t m → Coded n t m
coded n t m B = let g = group_of n t B.group in record { low = g.low; high = g.high; faults = g.faults; short = B.short }

-- the tree over n leaves, where n is more than one
module _ (n : ℕ) (more : 2 ≤ n) where
  left-size : size (shape (split n)) ≡ split n
  left-size = size-shape (split n) (split-largest n more).positive

  root-halves : (ds : List (List ℕ)) → root sha256 (shape n) ds
      ≡ sha256 (0x01 ∷ (root sha256 (shape (split n)) (take (split n) ds) ++ root sha256 (shape (n - split n)) (drop (split n) ds)))
  unfolding root node_string
  root-halves ds = rw (shape-node n more, left-size)

  path-first : (i : ℕ) (ds : List (List ℕ)) → i < split n → path sha256 (shape n) i ds
      ≡ path sha256 (shape (split n)) i (take (split n) ds) ++ (root sha256 (shape (n - split n)) (drop (split n) ds) ∷ [])
  unfolding path
  path-first i ds h = rw (shape-node n more, left-size, lt-ltb i (split n) h)

  path-others : (i : ℕ) (ds : List (List ℕ)) → split n ≤ i → path sha256 (shape n) i ds
      ≡ path sha256 (shape (n - split n)) (i - split n) (drop (split n) ds) ++ (root sha256 (shape (split n)) (take (split n) ds) ∷ [])
  unfolding path
  path-others i ds h = rw (shape-node n more, left-size, le-ltb i (split n) h)

root-leaf : (d : List ℕ) → root sha256 (shape 1) (d ∷ []) ≡ sha256 d
unfolding root
root-leaf d = rw (shape-leaf 1 (omega arith))

path-leaf : (ds : List (List ℕ)) → path sha256 (shape 1) 0 ds ≡ []
unfolding path
path-leaf ds = rw (shape-leaf 1 (omega arith))

-- the leaf strings of a book's shares
module _ (session n t : ℕ) (m : List ℕ) (B : Book n t m) where
  c : Coded n t m
  c = coded n t m B

  its-leaves : leaf_strings session n (shares n (n - t) m) ≡ leaves session n t m
  unfolding leaf_strings leaf_string session_bytes four_bytes
  its-leaves =
      tabulate-cong n _ _ (λ i h. let e : i + 1 - 1 ≡ i = omega arith in
      ap (λ (x : List ℕ). leaf_string session (i + 1) x)
      (ap (λ (k : ℕ). take (length (shares n (n - t) m) / n) (drop (k * (length (shares n (n - t) m) / n)) (shares n (n - t) m))) (sym e)
      ∙ cut n t m c (i + 1) (omega arith) (omega arith)))

  its-root : message_root sha256 session n t m ≡ root sha256 (shape n) (leaves session n t m)
  unfolding message_root
  its-root = tree-root sha256 session n (shares n (n - t) m) (fine n t m c session) c.low c.high ∙ ap (root sha256 (shape n)) its-leaves

  module _ (j : ℕ) (first : 1 ≤ j) (last : j ≤ n) where
    its-path : path_to sha256 sha256-length session n t m c j first last ≡ path sha256 (shape n) (j - 1) (leaves session n t m)
    its-path =
        path-made sha256 sha256-length session n (shares n (n - t) m) (fine n t m c session) j first last ∙ ap (path sha256 (shape n) (j - 1)) its-leaves

    its-packet : class_of sha256 session n j (message_root sha256 session n t m) (packet_with sha256 session n t m j)
        ≡ valid (share (n - t) j m) (path sha256 (shape n) (j - 1) (leaves session n t m))
    its-packet =
        packet-valid sha256 sha256-length session n t m c j first last (message_root sha256 session n t m) refl
        ∙ ap (valid (share (n - t) j m)) its-path

    its-bytes : packet_with sha256 session n t m j
        ≡ 0x07 ∷ j ∷ length (share (n - t) j m) / 256 ∷ length (share (n - t) j m) % 256
        ∷ (share (n - t) j m ++ chained (path sha256 (shape n) (j - 1) (leaves session n t m)))
    unfolding packet_of
    its-bytes = ap (λ (p : List (List ℕ)). packet_of j (share (n - t) j m) p) its-path

pub roots-and-paths-are-rfc-6962s : RootsAndPathsAreRFC6962s
roots-and-paths-are-rfc-6962s =
    record {
      power = λ n more. let l = split-largest n more in (l.exponent, l.power, l.below, l.double);
      root-one = root-leaf;
      root-more = λ n ds more. root-halves n more ds;
      path-one = path-leaf;
      path-left = λ n i ds more. path-first n more i ds;
      path-right = λ n i ds more. path-others n more i ds;
      book-root = its-root;
      book-path = λ session n t j m B. its-bytes session n t m B j;
    }

pub a-root-has-one-book : ARootHasOneBook
a-root-has-one-book =
    record {
      passes = λ session n t j m B. its-packet session n t m B j;
      binds = λ session n t j m w x p B. valid-share sha256 sha256-length session n t m (coded n t m B) (message_root sha256 session n t m) refl j w x p;
      one = λ session n t m o B D. one-root sha256 sha256-length session n t m o (coded n t m B) (coded n t o D) B.bytes D.bytes;
    }

pub hashes-are-fips-180-4s : HashesAreFIPS180-4s
hashes-are-fips-180-4s = record { constants = round-constants; words = initial-words; examples = ap₂ (λ (a b : List ℕ). a ∷ b ∷ []) abc two_blocks }
