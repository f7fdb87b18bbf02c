-- Only a query has hits: what is asked by any other request of the code names nothing. Assumes nothing.
use Prim.Native.Nat.{ℕ}
use mathlib.Core.List.{[]}
use mathlib.Core.Path.{◌≡◌, refl, ap}
use Rattle.rules.specs.Balance.{left, right}
use Rattle.rules.specs.Pool.{Pool}
use Rattle.rules.specs.Request.{serve}
use Rattle.rules.proofs.Hitless.{insert_hitless, delete_hitless, end_hitless}
use Rattle.rules.proofs.Serving.{clear_fresh}
use Rattle.request.specs.Requests.{end_of, request_of}
use Rattle.request.specs.declared.Stretch.{Stretch}
use Rattle.request.specs.declared.Request.{Request}
use Rattle.request.specs.declared.Request.TheVariants.{Insert, Delete, DeleteMin, DeleteMax, Clear, Query}

pub unless_query : (c : ℕ) (r : Request) (p : Pool) → ((s : Stretch) → r ≡ Query s → ⊥)
    → (serve c (request_of r) p).hits ≡ []
unfolding serve
unless_query c (Insert s v) p other = insert_hitless c (end_of s.bound) s.start s.end v p
unless_query c (Delete s) p other = delete_hitless c (end_of s.bound) s.start s.end p
unless_query c DeleteMin p other = end_hitless left p
unless_query c DeleteMax p other = end_hitless right p
unless_query c Clear p other = ap (λ x. x.hits) (clear_fresh c p)
unless_query c (Query s) p other = absurd (other s refl)
