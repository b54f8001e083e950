-- What stands behind the word of each command.
use Rattle.floyd_text.specs.declared.rule.Rule.{Rule}
use Rattle.floyd_text.specs.declared.rule.Rule.TheVariants as r
use Rattle.floyd_script_trees.specs.declared.shapes.Shape.{Shape}
use Rattle.floyd_script_trees.specs.declared.shapes.Shape.TheVariants.{Nothing, MaybeEnclosed, Enclosed, Loop, Terms, NamedTerms, NamedTwice, Named, Givens, MaybeGiven, Bare, Number, NumberOrHypothesis, NumberTerm, TwoNumbers, Rewriting, Destructing, NamedGivens, HypothesisTerm, Hypothesis, Weights}

abbrev pub shape_of : Rule → Shape
shape_of r.Forward = Nothing
shape_of r.Cancel = Nothing
shape_of r.Refl = Nothing
shape_of r.Trivial = Nothing
shape_of r.Left = Nothing
shape_of r.Right = Nothing
shape_of r.Split = Nothing
shape_of r.Simpl = Nothing
shape_of r.ForwardIf = MaybeEnclosed
shape_of r.ForwardWhile = Enclosed
shape_of r.ForwardSwitch = Enclosed
shape_of r.ForwardLoop = Loop
shape_of r.ForwardCall = Terms
shape_of r.ApplyIh = Terms
shape_of r.ForwardCallPtr = NamedTerms
shape_of r.ForwardRelease = NamedTerms
shape_of r.Apply = NamedTerms
shape_of r.Law = NamedTerms
shape_of r.Fold = NamedTwice
shape_of r.UseSpec = Named
shape_of r.ForwardAcquire = Named
shape_of r.ForwardSpawn = Named
shape_of r.UnfoldFun = Named
shape_of r.Intros = Givens
shape_of r.Intro = MaybeGiven
shape_of r.Exists = Bare
shape_of r.Cut = Bare
shape_of r.Weaken = Number
shape_of r.Unfold = Number
shape_of r.Facts = Number
shape_of r.Reroot = Number
shape_of r.SplitStruct = Number
shape_of r.JoinStruct = Number
shape_of r.Valid = NumberOrHypothesis
shape_of r.SplitArray = NumberTerm
shape_of r.SplitShare = NumberTerm
shape_of r.JoinArray = TwoNumbers
shape_of r.JoinShare = TwoNumbers
shape_of r.Rewrite = Rewriting
shape_of r.Destruct = Destructing
shape_of r.Induction = NamedGivens
shape_of r.Specialize = HypothesisTerm
shape_of r.Mp = Hypothesis
shape_of r.Discriminate = Hypothesis
shape_of r.Inject = Hypothesis
shape_of r.Lia = Weights
shape_of r.Reading = Nothing
