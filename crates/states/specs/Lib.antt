-- How the best walk is found, as theory. It defines: States and Automaton, and Chosen (the best walk as a function, for statements). The others define what laws speak of; the laws are in proofs/.
pub mod Longest
pub mod States
pub mod Automaton
pub mod Follow
pub mod Count
pub mod Cost
pub mod Greedy
pub mod Short
pub mod Chosen
