-- The texts of diagnostics by their codes.
use Rattle.std.specs.Prelude.{ℕ, ◌+◌, Bool, ◌==◌, nat_lt, List, [], ◌∷◌, ◌++◌, length, find, if◌then◌else◌, codes}
use Rattle.std.specs.List.{flat_map}
use Rattle.std.specs.Option.{option_map_or}

-- for each code what stands before, between and behind its arguments
abbrev pub texts : List (ℕ × List (List ℕ))
texts =
    (100, codes "form not built yet" ∷ [])
    ∷ (101, codes "unexpected byte " ∷ [] ∷ [])
    ∷ (102, codes "comment not closed" ∷ [])
    ∷ (103, codes "bad number" ∷ [])
    ∷ (104, codes "name too long" ∷ [])
    ∷ (105, codes "string not closed" ∷ [])
    ∷ (110, codes "unexpected " ∷ [] ∷ [])
    ∷ (111, codes "nesting deeper than 64" ∷ [])
    ∷ (112, codes "expression longer than 1024 tokens" ∷ [])
    ∷ (120, [] ∷ codes " is declared twice" ∷ [])
    ∷ (201, codes "no module " ∷ [] ∷ [])
    ∷ (301, codes "unknown name " ∷ [] ∷ [])
    ∷ (302, codes "cannot convert " ∷ codes " to " ∷ [] ∷ [])
    ∷ (303, [] ∷ codes " is not a type" ∷ [])
    ∷ (304, [] ∷ codes " is not a value" ∷ [])
    ∷ (305, codes "no overload of " ∷ codes " fits" ∷ [])
    ∷ (306, codes "call of " ∷ codes " is ambiguous between " ∷ codes " and " ∷ [] ∷ [])
    ∷ (307, [] ∷ codes " is declared by more than one import" ∷ [])
    ∷ (308, codes "cannot infer " ∷ [] ∷ [])
    ∷ (309, [] ∷ codes " would be " ∷ codes " and " ∷ [] ∷ [])
    ∷ (310, codes "not a place that can be written" ∷ [])
    ∷ (311, codes "operator " ∷ codes " does not take " ∷ [] ∷ [])
    ∷ (312, codes "no member " ∷ codes " in " ∷ [] ∷ [])
    ∷ (313, codes "not a constant" ∷ [])
    ∷ (314, codes "break or continue outside a loop" ∷ [])
    ∷ (315, codes "a path without return" ∷ [])
    ∷ (316, codes "return does not fit" ∷ [])
    ∷ (317, codes "not an entry point of this profile" ∷ [])
    ∷ (318, codes "type " ∷ codes " is not allowed here" ∷ [])
    ∷ (319, [] ∷ codes " cannot be reached from here" ∷ [])
    ∷ (401, [] ∷ codes " does not conform to " ∷ [] ∷ [])
    ∷ (402, [] ∷ codes " has no " ∷ codes " for " ∷ [] ∷ [])
    ∷ (403, [] ∷ codes " has two " ∷ codes " for " ∷ [] ∷ [])
    ∷ (404, [] ∷ codes " is not an interface" ∷ [])
    ∷ (405, codes "wrong number of type arguments for " ∷ [] ∷ [])
    ∷ (406, [] ∷ codes " conforms to " ∷ codes " twice" ∷ [])
    ∷ (501, codes "type deeper than 12 or larger than 64" ∷ [])
    ∷ (502, codes "struct larger than 1024 leaves or 64 levels" ∷ [])
    ∷ (601, codes "no entry point " ∷ codes " in " ∷ [] ∷ [])
    ∷ (602, codes "no type " ∷ [] ∷ [])
    ∷ (603, [] ∷ codes " types are needed and " ∷ codes " given" ∷ [])
    ∷ (604, codes "type parameters are open" ∷ [])
    ∷ (605, codes "binding " ∷ codes " of set " ∷ codes " is taken twice" ∷ [])
    ∷ (606, codes "code larger than 65536 words" ∷ [])
    ∷ (701, codes "no end within " ∷ codes " instructions" ∷ [])
    ∷ (702, codes "buffers are not those of the layout" ∷ [])
    ∷ []

-- what stands before, between and behind the arguments of a code
abbrev pub pieces_of : ℕ → List (List ℕ)
pieces_of code =
    option_map_or (λ (entry : ℕ × List (List ℕ)). entry.1)
    (find (λ (entry : ℕ × List (List ℕ)). entry.0 == code) texts) []

-- pieces and arguments in turn
abbrev pub weave : List (List ℕ) → List (List ℕ) → List ℕ
weave [] args = []
weave (piece ∷ pieces) [] = piece ++ weave pieces []
weave (piece ∷ pieces) (arg ∷ args) = piece ++ (arg ++ weave pieces args)

-- the code of a circle of queries, whose arguments are the queries on it
abbrev pub circular : ℕ
circular = 901

-- each query on the circle points to the next one, and the last one to the first
abbrev pub circle_text : List (List ℕ) → List ℕ
circle_text [] = codes "circular: "
circle_text (first ∷ others) =
    codes "circular: " ++ (first
    ++ (flat_map (λ query. codes " -> " ++ query) others ++ (codes " -> " ++ first)))

-- the text of a code with its arguments
abbrev pub message : ℕ → List (List ℕ) → List ℕ
message code args = if code == circular then circle_text args else weave (pieces_of code) args

-- the code has a text, which takes this number of arguments
abbrev pub takes : ℕ → ℕ → Bool
takes code arguments =
    if code == circular then nat_lt 0 arguments else length (pieces_of code) == arguments + 1
