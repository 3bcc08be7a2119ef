-- Comments: where they end, and the pieces that begin with `/*` and `//`.
use Rattle.std.proofs.Common.{◌≡◌, ℕ, zero, suc, ◌+◌, ◌<◌, ◌≤◌, Bool, true, false, ltb, List, [], ◌∷◌, ◌++◌, length, take, drop, get_or, refl, sym, ap, subst, ◌∙◌, ◌⊎◌, inl, inr, ⊎_elim, arith, ◌-◌, length-drop, append_assoc, length-append}
use Rattle.std.specs.Prelude.{if◌then◌else◌, nat_eq, codes}
use Rattle.std.specs.List.{list_all, prefix_len, starts_with}
use Rattle.std.proofs.lemmas.Bool.{and_right, or_parts, false≢true, ltb-true, ltb-false, or_from}
use Rattle.std.proofs.lemmas.List.{length-take-le, take-append-drop, take_all}
use Rattle.std.proofs.lemmas.List.Sums.{prefix_len-le-length}
use Rattle.std.proofs.lemmas.Slice.Eq.{bytes_eq-Decides}
use Rattle.std.proofs.Math.Seq.{take-append-add, drop-cons}
use Rattle.def_token.specs.Lexeme.{Class, Space, Comment, OpenComment, Word, Quoted, OpenQuoted, Symbol, Stray, IsPiece, IsLineComment, IsBlockComment, IsOpenComment, is_in_line, has_comment_end}
use Rattle.sl_token.specs.Cutting.{before_end, block_comment}
use Rattle.sl_token.proofs.Runs.{front_passes, front_longest, one_further}
use Rattle.sl_token.proofs.Heads.{IsFirst, add-two, add-four, add-one', head_is, tail_is, begins, apart}

-- comments: where they end
end_by : (b : ℕ) (bytes : List ℕ) (t : Bool) → starts_with nat_eq (b ∷ bytes) (codes "*/") ≡ t → before_end (b ∷ bytes) ≡ (if t then 0 else suc (before_end bytes))
end_by b bytes t h = ap (λ s. if s then 0 else suc (before_end bytes)) h

pub no_end_further : (text : List ℕ) (i : ℕ) → i < length text → false ≡ starts_with nat_eq (take (length text - i) (drop i text)) (codes "*/")
    → before_end text ≡ i + before_end (drop i text) → before_end text ≡ (i + 1) + before_end (drop (i + 1) text)
no_end_further text i some is so_far =
    let cut = drop-cons text i 0 some in
    let whole : take (length text - i) (drop i text) ≡ drop i text = take_all (length text - i) (drop i text) (omega (arith, length-drop i text)) in
    let here : starts_with nat_eq (get_or text i 0 ∷ drop (suc i) text) (codes "*/") ≡ false = ap (λ bs. starts_with nat_eq bs (codes "*/")) (sym cut ∙ sym whole) ∙ sym is in
    let further : before_end (drop i text) ≡ suc (before_end (drop (suc i) text)) =
    ap before_end cut ∙ end_by (get_or text i 0) (drop (suc i) text) false here in
    let next : before_end (drop (suc i) text) ≡ before_end (drop (i + 1) text) = ap (λ n. before_end (drop n text)) (add-one' i) in
    omega arith

-- the first end is where it is counted
end_splits_by : (b : ℕ) (bytes : List ℕ) (t : Bool) → starts_with nat_eq (b ∷ bytes) (codes "*/") ≡ t
    → ((before_end bytes < length bytes) → (rest : List ℕ) × (bytes ≡ take (before_end bytes) bytes ++ 42 ∷ 47 ∷ rest))
    → (if t then 0 else suc (before_end bytes)) < length (b ∷ bytes)
    → (rest : List ℕ) × (b ∷ bytes ≡ take (if t then 0 else suc (before_end bytes)) (b ∷ bytes) ++ 42 ∷ 47 ∷ rest)
end_splits_by b bytes true h more some =
    (drop 2 (b ∷ bytes), sym (take-append-drop 2 (b ∷ bytes)) ∙ ap (λ f. f ++ drop 2 (b ∷ bytes)) (sym ((bytes_eq-Decides (codes "*/") (take 2 (b ∷ bytes))).0 h)))
end_splits_by b bytes false h more some = let r = more (omega arith) in (r.0, ap (λ bs. b ∷ bs) r.1)

end_splits : (body : List ℕ) → before_end body < length body → (rest : List ℕ) × (body ≡ take (before_end body) body ++ 42 ∷ 47 ∷ rest)
end_splits [] some = absurd (omega arith)
end_splits (b ∷ bytes) some = end_splits_by b bytes (starts_with nat_eq (b ∷ bytes) (codes "*/")) refl (end_splits bytes) some

-- no end stands before it
star_at : (b : ℕ) (bytes : List ℕ) (m : ℕ) → starts_with nat_eq (b ∷ bytes) (codes "*/") ≡ false → m ≤ length bytes → starts_with nat_eq (b ∷ (take m bytes ++ codes "*")) (codes "*/") ≡ false
star_at b bytes zero h short = and_right (nat_eq 42 b) false refl
star_at b [] (suc m) h short = absurd (omega arith)
star_at b (c ∷ bytes) (suc m) h short = h

clean_by : (b : ℕ) (bytes : List ℕ) (t : Bool) → starts_with nat_eq (b ∷ bytes) (codes "*/") ≡ t → before_end bytes ≤ length bytes
    → has_comment_end (take (before_end bytes) bytes ++ codes "*") ≡ false
    → has_comment_end (take (if t then 0 else suc (before_end bytes)) (b ∷ bytes) ++ codes "*") ≡ false
clean_by b bytes true h short more = refl
clean_by b bytes false h short more =
    or_from (starts_with nat_eq (b ∷ (take (before_end bytes) bytes ++ codes "*")) (codes "*/")) (has_comment_end (take (before_end bytes) bytes ++ codes "*"))
    (star_at b bytes (before_end bytes) h short) more

short_by : (n m : ℕ) (t : Bool) → n ≤ m → (if t then 0 else suc n) ≤ suc m
short_by n m true h = omega arith
short_by n m false h = omega arith

pub end_short : (body : List ℕ) → before_end body ≤ length body
end_short [] = omega arith
end_short (b ∷ bytes) = short_by (before_end bytes) (length bytes) (starts_with nat_eq (b ∷ bytes) (codes "*/")) (end_short bytes)

clean : (body : List ℕ) → has_comment_end (take (before_end body) body ++ codes "*") ≡ false
clean [] = refl
clean (b ∷ bytes) = clean_by b bytes (starts_with nat_eq (b ∷ bytes) (codes "*/")) refl (end_short bytes) (clean bytes)

-- where none is counted, none stands
none_by : (b : ℕ) (bytes : List ℕ) (t : Bool) → starts_with nat_eq (b ∷ bytes) (codes "*/") ≡ t → (length bytes ≤ before_end bytes → has_comment_end bytes ≡ false)
    → length (b ∷ bytes) ≤ (if t then 0 else suc (before_end bytes)) → has_comment_end (b ∷ bytes) ≡ false
none_by b bytes true h more none = absurd (omega arith)
none_by b bytes false h more none = or_from (starts_with nat_eq (b ∷ bytes) (codes "*/")) (has_comment_end bytes) h (more (omega arith))

no_end : (body : List ℕ) → length body ≤ before_end body → has_comment_end body ≡ false
no_end [] none = refl
no_end (b ∷ bytes) none = none_by b bytes (starts_with nat_eq (b ∷ bytes) (codes "*/")) refl (no_end bytes) none

-- an end behind bytes without one is the first
no_star_end : (b : ℕ) (inside rest : List ℕ) → starts_with nat_eq (b ∷ (inside ++ codes "*")) (codes "*/") ≡ false → starts_with nat_eq (b ∷ (inside ++ 42 ∷ 47 ∷ rest)) (codes "*/") ≡ false
no_star_end b [] rest h = h
no_star_end b (c ∷ inside) rest h = h

end_is : (inside rest : List ℕ) → has_comment_end (inside ++ codes "*") ≡ false → before_end (inside ++ 42 ∷ 47 ∷ rest) ≡ length inside
end_is [] rest h = refl
end_is (b ∷ inside) rest h =
    let parts = or_parts (starts_with nat_eq (b ∷ (inside ++ codes "*")) (codes "*/")) (has_comment_end (inside ++ codes "*")) h in
    end_by b (inside ++ 42 ∷ 47 ∷ rest) false (no_star_end b inside rest parts.0) ∙ ap suc (end_is inside rest parts.1)

-- a front without an end stops before its second byte
front_by : (b : ℕ) (bytes : List ℕ) (j : ℕ) (t : Bool) → starts_with nat_eq (b ∷ bytes) (codes "*/") ≡ t → j ≤ length bytes
    → starts_with nat_eq (b ∷ take j bytes) (codes "*/") ≡ false → j ≤ suc (before_end bytes) → suc j ≤ suc (if t then 0 else suc (before_end bytes))
front_by b bytes zero true h short none more = omega arith
front_by b [] (suc j) true h short none more = absurd (omega arith)
front_by b (c ∷ bytes) (suc j) true h short none more = absurd (false≢true (sym none ∙ h))
front_by b bytes j false h short none more = omega arith

front_without_end : (body : List ℕ) (j : ℕ) → j ≤ length body → has_comment_end (take j body) ≡ false → j ≤ suc (before_end body)
front_without_end body zero short h = omega arith
front_without_end [] (suc j) short h = absurd (omega arith)
front_without_end (b ∷ bytes) (suc j) short h =
    let parts = or_parts (starts_with nat_eq (b ∷ take j bytes) (codes "*/")) (has_comment_end (take j bytes)) h in
    front_by b bytes j (starts_with nat_eq (b ∷ bytes) (codes "*/")) refl (omega arith) parts.0 (front_without_end bytes j (omega arith) parts.1)

-- comments: a piece that begins with `/*`
block_cases : (class : Class) (bytes : List ℕ) → IsPiece class (47 ∷ 42 ∷ bytes) → IsBlockComment (47 ∷ 42 ∷ bytes) ⊎ IsOpenComment (47 ∷ 42 ∷ bytes)
block_cases Space bytes h = absurd (false≢true h.all)
block_cases Comment bytes h = ⊎_elim
    (λ (line : IsLineComment (47 ∷ 42 ∷ bytes)). absurd (apart 42 47 refl (head_is 42 47 bytes line.body (tail_is 47 47 (42 ∷ bytes) (47 ∷ line.body) line.parts))))
    (λ block. inl block) h
block_cases OpenComment bytes h = inr h
block_cases Word bytes h = absurd (false≢true h.all)
block_cases Quoted bytes h = absurd (apart 47 34 refl (begins Quoted 47 (42 ∷ bytes) h))
block_cases OpenQuoted bytes h = absurd (apart 47 34 refl (begins OpenQuoted 47 (42 ∷ bytes) h))
block_cases Symbol bytes h = absurd (false≢true h)
block_cases Stray bytes h = let none = tail_is 47 h.byte (42 ∷ bytes) [] h.parts in cc

block_front : (body : List ℕ) (j : ℕ) → IsBlockComment (47 ∷ 42 ∷ take j body) → j ≤ length body → (j ≡ before_end body + 2) × (before_end body < length body)
block_front body j h short =
    let front : take j body ≡ h.body ++ 42 ∷ 47 ∷ [] = tail_is 42 42 (take j body) (h.body ++ codes "*/") (tail_is 47 47 (42 ∷ take j body) (42 ∷ (h.body ++ codes "*/")) h.parts) in
    let whole : body ≡ h.body ++ 42 ∷ 47 ∷ drop j body =
    sym (take-append-drop j body) ∙ ap (λ f. f ++ drop j body) front ∙ append_assoc h.body (42 ∷ 47 ∷ []) (drop j body) in
    let at = ap before_end whole ∙ end_is h.body (drop j body) h.inside in
    let count : j ≡ length h.body + 2 = omega (arith, ap length front, length-append h.body (42 ∷ 47 ∷ []), length-take-le j body short) in
    (omega (arith, at, count), omega (arith, at, count))

block_longest : (body : List ℕ) (class : Class) (k : ℕ) → k ≤ length (47 ∷ 42 ∷ body) → IsPiece class (take k (47 ∷ 42 ∷ body)) → k ≤ before_end body + 4
block_longest body class zero short piece = omega arith
block_longest body class (suc zero) short piece = omega arith
block_longest body class (suc (suc j)) short piece =
    ⊎_elim (λ closed. omega (arith, (block_front body j closed (omega arith)).0))
    (λ (front : IsOpenComment (47 ∷ 42 ∷ take j body)).
    let same = tail_is 42 42 (take j body) front.body (tail_is 47 47 (42 ∷ take j body) (42 ∷ front.body) front.parts) in
    omega (arith, front_without_end body j (omega arith) (ap has_comment_end same ∙ front.inside)))
    (block_cases class (take j body) piece)

block_closed : (body : List ℕ) → before_end body < length body → IsFirst (47 ∷ 42 ∷ body) (Comment, before_end body + 4)
block_closed body some =
    let m = before_end body in
    let r = end_splits body some in
    let count = length-take-le m body (end_short body) in
    let close : take (m + 2) body ≡ take m body ++ codes "*/" =
    ap (take (m + 2)) r.1 ∙ ap (λ n. take (n + 2) (take m body ++ 42 ∷ 47 ∷ r.0)) (sym count) ∙ take-append-add (take m body) (42 ∷ 47 ∷ r.0) 2 in
    record {
      within = omega (arith, ap length r.1, length-append (take m body) (42 ∷ 47 ∷ r.0), count);
      kind = subst (λ n. IsPiece Comment (take n (47 ∷ 42 ∷ body))) (add-four m)
          (inr (record { body = take m body; parts = ap (λ bs. 47 ∷ 42 ∷ bs) close; inside = clean body }));
      longest = block_longest body;
    }

block_open : (body : List ℕ) → length body ≤ before_end body → IsFirst (47 ∷ 42 ∷ body) (OpenComment, before_end body + 2)
block_open body none =
    let m = before_end body in
    let all : take m body ≡ body = take_all m body none in
    record {
      within = omega (arith, end_short body);
      kind = subst (λ n. IsPiece OpenComment (take n (47 ∷ 42 ∷ body))) (add-two m)
          (record { body = body; parts = ap (λ bs. 47 ∷ 42 ∷ bs) all; inside = no_end body none });
      longest = λ class k short piece. omega (arith, short);
    }

block_by : (body : List ℕ) (b : Bool) → ltb (before_end body) (length body) ≡ b
    → IsFirst (47 ∷ 42 ∷ body) (if b then (Comment, before_end body + 4) else (OpenComment, before_end body + 2))
block_by body true h = block_closed body (ltb-true (before_end body) (length body) h)
block_by body false h = block_open body (ltb-false (before_end body) (length body) h)

pub block_first : (body : List ℕ) → IsFirst (47 ∷ 42 ∷ body) (block_comment body)
block_first body = block_by body (ltb (before_end body) (length body)) refl

-- comments: a piece that begins with `//`
line_cases : (class : Class) (bytes : List ℕ) → IsPiece class (47 ∷ 47 ∷ bytes) → IsLineComment (47 ∷ 47 ∷ bytes)
line_cases Space bytes h = absurd (false≢true h.all)
line_cases Comment bytes h = ⊎_elim (λ line. line)
    (λ (block : IsBlockComment (47 ∷ 47 ∷ bytes)).
    absurd (apart 47 42 refl (head_is 47 42 bytes (block.body ++ codes "*/") (tail_is 47 47 (47 ∷ bytes) (42 ∷ (block.body ++ codes "*/")) block.parts)))) h
line_cases OpenComment bytes h = absurd (apart 47 42 refl (head_is 47 42 bytes h.body (tail_is 47 47 (47 ∷ bytes) (42 ∷ h.body) h.parts)))
line_cases Word bytes h = absurd (false≢true h.all)
line_cases Quoted bytes h = absurd (apart 47 34 refl (begins Quoted 47 (47 ∷ bytes) h))
line_cases OpenQuoted bytes h = absurd (apart 47 34 refl (begins OpenQuoted 47 (47 ∷ bytes) h))
line_cases Symbol bytes h = absurd (false≢true h)
line_cases Stray bytes h = let none = tail_is 47 h.byte (47 ∷ bytes) [] h.parts in cc

line_longest : (bytes : List ℕ) (class : Class) (k : ℕ) → k ≤ length (47 ∷ 47 ∷ bytes) → IsPiece class (take k (47 ∷ 47 ∷ bytes)) → k ≤ suc (suc (prefix_len is_in_line bytes))
line_longest bytes class zero short piece = omega arith
line_longest bytes class (suc zero) short piece = omega arith
line_longest bytes class (suc (suc j)) short piece =
    let line = line_cases class (take j bytes) piece in
    let same = tail_is 47 47 (take j bytes) line.body (tail_is 47 47 (47 ∷ take j bytes) (47 ∷ line.body) line.parts) in
    omega (arith, front_longest is_in_line bytes j (omega arith) (ap (list_all is_in_line) same ∙ line.inside))

two_further : (bytes : List ℕ) → suc (suc (prefix_len is_in_line bytes)) ≡ prefix_len is_in_line (47 ∷ 47 ∷ bytes)
two_further bytes = sym (one_further is_in_line 47 (47 ∷ bytes) refl ∙ ap suc (one_further is_in_line 47 bytes refl))

pub line_first : (bytes : List ℕ) → IsFirst (47 ∷ 47 ∷ bytes) (Comment, prefix_len is_in_line (47 ∷ 47 ∷ bytes))
line_first bytes =
    subst (λ n. IsFirst (47 ∷ 47 ∷ bytes) (Comment, n)) (two_further bytes)
    (record {
      within = omega (arith, prefix_len-le-length is_in_line bytes);
      kind = inl (record { body = take (prefix_len is_in_line bytes) bytes; parts = refl; inside = front_passes is_in_line bytes });
      longest = line_longest bytes;
    })
