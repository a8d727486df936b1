-- What each trial is called.
use Rattle.std.specs.Prelude.{ℕ, List, codes}
use Rattle.hostile.specs.declared.trials.Trial.{Trial}
use Rattle.hostile.specs.declared.trials.Trial.TheVariants.{DeepestPath, TooDeepPath, FullTree, GreatestWeight, WeightPastLimit, SumAtLimit, ProductPastLimit, RestPastLimit, LongestFile, TooLongFile}

-- the text of a trial
abbrev pub trial_text : Trial → List ℕ
trial_text DeepestPath = codes "64 splits on a path"
trial_text TooDeepPath = codes "65 splits on a path"
trial_text FullTree = codes "4,096 leaves"
trial_text GreatestWeight = codes "a weight of 10^18, 3 times"
trial_text WeightPastLimit = codes "a weight past 10^18"
trial_text SumAtLimit = codes "a sum of -10^18"
trial_text ProductPastLimit = codes "a product of -2 x 10^18"
trial_text RestPastLimit = codes "a rest past 10^18 that would come back"
trial_text LongestFile = codes "65,535 zeros"
trial_text TooLongFile = codes "65,536 zeros"
