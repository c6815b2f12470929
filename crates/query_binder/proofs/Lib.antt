mod Steps
mod TestNodes
